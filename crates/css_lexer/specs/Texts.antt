-- The text of a node: what is refused of it, and at which of its bytes; and where it leads a path.
use Rattle.std.specs.Prelude.{ℕ, ◌+◌, ◌-◌, List, [], ◌∷◌, Option, Some, None}
use Rattle.css_lexer.specs.Paths.{style_after_cut}
use Rattle.css_lexer.specs.RefusalCodes.{RefusalCode, StyleCutRefusal}
use Rattle.css_lexer.specs.Refusals.{style_refuses, style_refuses_cut}
use Rattle.css_lexer.specs.States.{Style}
use Rattle.css_lexer.specs.Steps.{feed_style, style_reading, read_style}
use Rattle.css_lexer.specs.UrlReading.{UrlReading}

-- the byte at which the text is refused, or its length; and the byte before which the place stands that is shown. Both count bytes as the
-- style is fed them: in an attribute with references undone.
pub record TextRefusal : Type 0 where
  pub code : RefusalCode
  pub at : ℕ
  pub shown : ℕ

abbrev pub text_refusal : RefusalCode → ℕ → ℕ → Option TextRefusal
text_refusal code at shown = Some (record { code = code; at = at; shown = shown })

abbrev pub style_refusal_at_end : ℕ → Option StyleCutRefusal → Option TextRefusal
style_refusal_at_end len None = None
style_refusal_at_end len (Some r) = text_refusal r.code (len - r.back) (len - r.shown)

abbrev pub first_text_refusal : ℕ → Option RefusalCode → Option TextRefusal → Option TextRefusal
first_text_refusal k (Some code) later = text_refusal code k k
first_text_refusal k None later = later

abbrev pub style_refusal_from : {U E : Type 0} → UrlReading U E → ℕ → Style U → List ℕ → Option TextRefusal
style_refusal_from x k s [] = style_refusal_at_end k (style_refuses_cut x s)
style_refusal_from x k s (b ∷ bs) = first_text_refusal k (style_refuses x s b) (style_refusal_from x (k + 1) (feed_style x s b) bs)

abbrev pub refusal : {U E : Type 0} → UrlReading U E → Style U → List ℕ → Option TextRefusal
refusal x s text = style_refusal_from x 0 s text

-- where the text of a node leads a path
abbrev pub style_node : {U E : Type 0} → UrlReading U E → List ℕ → Style U → Style U
style_node x text s = style_after_cut x (read_style x text (style_reading s [])).at
