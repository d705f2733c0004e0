-- A small language of values, whose states differ in a page and on its path behind a hole: `*/` in a value is told as one thing. It has the laws of
-- a language. And what the laws do not let through: bytes of a hole that change how the text behind them is read.
use Rattle.std.proofs.Common.{◌≡◌, ℕ, ◌==◌, Bool, true, false, codes, List, [], ◌∷◌, Option, Some, None, if◌then◌else◌, refl, ap}
use Rattle.std.specs.Prelude.{⊤}
use Rattle.place_core.specs.page.Classes.{Solidus, class_of}
use Rattle.place_core.specs.place.Errors.{language_error}
use Rattle.place_core.specs.page.Events.{LexEvent, Escape, Mark, ValueByte}
use Rattle.place_core.specs.page.Html.{read_over}
use Rattle.place_core.specs.page.Paths.{Hole, read_path}
use Rattle.place_core.specs.page.References.{Closed}
use Rattle.place_core.specs.page.Shape.{marked_over}
use Rattle.place_core.specs.page.States.{Page, Template, LexState, AttributeValue, Config, config}
use Rattle.place_core.specs.page.Tags.{end_tag, ValueLanguage, ValueOf, feeding, DoubleQuoted}
use Rattle.place_core.specs.declared.code.Code.{Code}
use Rattle.place_core.specs.declared.code.Code.TheVariants as code
use Rattle.text_norm.specs.Standing.{StandsInValue}
use Rattle.text_norm.specs.ValueLaws.{ValueLanguageLaws}
use Rattle.text_norm.proofs.ValuesKeep.{hole-alike}

-- The last byte was a `*`, or it was another one. And on a path alone: a hole was last, whose last byte nobody knows.
pub data Toy : Type 0 where
  Loose : Toy
  Starred : Toy
  Behind : Toy

abbrev after_byte : ℕ → Toy
after_byte b = if b == 42 then Starred else Loose

-- a `/` after a `*` is told otherwise; and behind a hole, where it may be one, it is refused
abbrev told : Toy → ℕ → List LexEvent → List LexEvent
told Loose b t = ValueByte b ∷ t
told Starred b t = if b == 47 then Escape ∷ t else ValueByte b ∷ t
told Behind b t = ValueByte b ∷ t

abbrev refused : Toy → ℕ → Option Code
refused Behind b = if b == 47 then Some code.SplitToken else None
refused v b = None

abbrev AreAlike : Toy → Toy → Type 0
AreAlike Behind w = ⊤
AreAlike v w = w ≡ v

abbrev pub toy : ValueLanguage Toy
toy = record {
  start = λ k. Loose;
  feed = λ v b. after_byte b;
  emits = told;
  refuses = refused;
  refuses_names = λ v. false;
  ends = λ v t. t;
  after_cut = λ v. v;
  refuses_cut = λ v. None;
  refuses_less = λ v. None;
  is_script = λ v. false;
  may_end = λ v. true;
  settled = λ v. v;
  emits_settled = λ v t. t;
  has_mark = λ v. true;
  after_hole = λ v. Behind;
  behind = λ before after. after;
  LeadsPlain = λ before bytes after. ⊤;
  AreAlike = AreAlike;
}

alike-itself : (v : Toy) → AreAlike v v
alike-itself Loose = refl
alike-itself Starred = refl
alike-itself Behind = tt

not-refused : (x : Bool) → (if x then Some code.SplitToken else None) ≡ None → x ≡ false
not-refused true n = cc
not-refused false n = refl

unless-solidus : (x : Bool) (s t : List LexEvent) → x ≡ false → (if x then s else t) ≡ t
unless-solidus true s t e = cc
unless-solidus false s t e = refl

toy-emits : (v w : Toy) (b : ℕ) (t : List LexEvent) → AreAlike v w → refused v b ≡ None → told w b t ≡ told v b t
toy-emits Loose w b t a n = ap (λ (z : Toy). told z b t) a
toy-emits Starred w b t a n = ap (λ (z : Toy). told z b t) a
toy-emits Behind Loose b t a n = refl
toy-emits Behind Starred b t a n = unless-solidus (b == 47) (Escape ∷ t) (ValueByte b ∷ t) (not-refused (b == 47) n)
toy-emits Behind Behind b t a n = refl

pub toy-keeps : ValueLanguageLaws Toy toy
toy-keeps = record {
  begins = λ k. refl;
  emits = toy-emits;
  feeds = λ v w b a n. alike-itself (after_byte b);
  ends = λ v w t a. refl;
  after_cut = λ v w a n. a;
  settles = λ v w t a. refl;
  marks = λ v w a. refl;
  hole = λ v w after bytes a p. tt;
}

-- A page with the bytes of a hole in a value, and then a text, and the path of that text behind a hole.
abbrev in_toy : Toy → LexState Toy
in_toy v = AttributeValue DoubleQuoted end_tag (ValueOf v) Closed

abbrev page_behind : List ℕ → List ℕ → Config Toy
page_behind hole text = read_over toy Page text (marked_over toy hole (config (in_toy Loose) []))

abbrev path_behind : List ℕ → Config Toy
path_behind text = read_over toy Template text (read_path toy (Hole ∷ []) (config (in_toy Loose) []))

-- Behind the hole they are in different states, and the page stands for the path all the same.
differ : (page_behind (codes "a*") [] ≡ config (in_toy Starred) (Mark ∷ [])) × (path_behind [] ≡ config (in_toy Behind) (Mark ∷ []))
unfolding class_of
differ = (refl, refl)

stands : StandsInValue toy DoubleQuoted end_tag (ValueOf Behind) Closed (Mark ∷ []) (page_behind (codes "a*") [])
unfolding class_of
stands = hole-alike toy-keeps DoubleQuoted end_tag Loose Loose Starred (codes "a*") [] refl tt

-- the next byte brings them together, and they have told the same
together : page_behind (codes "a*") (codes "b*/") ≡ path_behind (codes "b*/")
unfolding class_of
together = refl

-- A text that the bytes of the hole change is told otherwise in the page than on the path: nothing of that is invisible. So the path refuses it.
other-event : (t : List LexEvent) → Escape ∷ t ≡ ValueByte 47 ∷ t → ⊥
other-event t e = cc

changed : (page_behind (codes "a*") (codes "/")).emitted ≡ (path_behind (codes "/")).emitted → ⊥
unfolding class_of
changed e = other-event (Mark ∷ []) e

is-refused : language_error (feeding toy) false (ValueOf Behind) Closed Solidus 47 ≡ None → ⊥
is-refused e = cc

-- the states between which a hole can change the text that is written behind it are not alike
not-alike : AreAlike Loose Starred → ⊥
not-alike e = cc

-- A language that takes no notice of a hole on its path has no laws.
abbrev unaware : ValueLanguage Toy
unaware = record {
  start = toy.start;
  feed = toy.feed;
  emits = toy.emits;
  refuses = toy.refuses;
  refuses_names = toy.refuses_names;
  ends = toy.ends;
  after_cut = toy.after_cut;
  refuses_cut = toy.refuses_cut;
  refuses_less = toy.refuses_less;
  is_script = toy.is_script;
  may_end = toy.may_end;
  settled = toy.settled;
  emits_settled = toy.emits_settled;
  has_mark = toy.has_mark;
  after_hole = λ v. v;
  behind = toy.behind;
  LeadsPlain = toy.LeadsPlain;
  AreAlike = toy.AreAlike;
}

no-laws : ValueLanguageLaws Toy unaware → ⊥
no-laws l = not-alike (l.hole Loose Loose Starred [] refl tt)

-- nor has one that tells nothing apart: were all its states alike, a byte would be told alike in all
abbrev blind : ValueLanguage Toy
blind = record {
  start = toy.start;
  feed = toy.feed;
  emits = toy.emits;
  refuses = λ v b. None;
  refuses_names = toy.refuses_names;
  ends = toy.ends;
  after_cut = toy.after_cut;
  refuses_cut = toy.refuses_cut;
  refuses_less = toy.refuses_less;
  is_script = toy.is_script;
  may_end = toy.may_end;
  settled = toy.settled;
  emits_settled = toy.emits_settled;
  has_mark = toy.has_mark;
  after_hole = toy.after_hole;
  behind = toy.behind;
  LeadsPlain = toy.LeadsPlain;
  AreAlike = λ v w. ⊤;
}

blind-has-none : ValueLanguageLaws Toy blind → ⊥
blind-has-none l = other-event [] (l.emits Loose Starred 47 [] tt refl)
