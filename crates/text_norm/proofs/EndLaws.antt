-- What is written where a text ends: a law for each scan state.
use Rattle.std.proofs.Common.{◌≡◌, Bool, true, false, codes, List, ℕ, [], ◌∷◌, ◌++◌, refl, sym, ap, ◌∙◌, subst}
use Rattle.std.proofs.lemmas.List.{append_assoc}
use Rattle.css_step.specs.StyleScans.{StyleScan}
use Rattle.place_core.specs.page.Contents.{pending_bytes}
use Rattle.place_core.specs.page.References.{Reference, Closed, as_it_stands}
use Rattle.place_core.specs.page.States.{Pending, PendingLess, LessAtCut, PendingName, PendingBang, PendingBangDash, PendingOpening, Nothing}
use Rattle.place_core.specs.declared.css.Css.{Css}
use Rattle.place_core.specs.declared.css.Css.TheVariants as css
use Rattle.place_core.specs.declared.element.Element.TheVariants as element
use Rattle.place_core.specs.declared.place.Place.TheVariants as place
use Rattle.html_scan.specs.Scans.{Scan, At, AfterLess, AfterLessSolidus, InDeclaration, InTagName, InAttributeName, InCommentEnd, InContentEnd, InStyleElement, InScriptElement, InUrl, InStyle, InScript, BeforeType, InType}
use Rattle.text_norm.specs.Scanned.{scan_cut_out}
use Rattle.text_norm.specs.Kept.{IsProgressKept, bears, is_style_comment, ending_of, in_style_comment, scan_of, hides, less_kept, reference_of, style_ending}
use Rattle.text_norm.specs.Written.{text_escaped}
use Rattle.text_norm.specs.declared.pending.Ending.{Ending}
use Rattle.text_norm.specs.declared.pending.Ending.TheVariants as ending
use Rattle.text_norm.specs.declared.pending.WriteProgress.{WriteProgress}
use Rattle.text_norm.proofs.ByteLaws.{IsRead, shown-element}
use Rattle.text_norm.proofs.Spelled.{is_read}
use Rattle.text_norm.proofs.StyleScanBytes.{FedBytes, cut-behind, fed-pending, hidden-cut}

pub record EndsLoose (f : Scan) (r : Reference) : Type 0 where
  pub out : scan_cut_out f r ≡ text_escaped r
  pub less : less_kept f ≡ []
  pub shown : hides f ≡ false

pub record EndsBehindLess (f : Scan) (r : Reference) : Type 0 where
  pub more : List ℕ
  pub less : less_kept f ≡ 60 ∷ more
  pub out : scan_cut_out f r ≡ as_it_stands r ++ (codes "&lt;" ++ more)
  pub shown : hides f ≡ false

pub record EndsInComment (f : Scan) (r : Reference) : Type 0 where
  pub out : scan_cut_out f r ≡ []
  pub hidden : hides f ≡ true

-- in a style, and in a comment of it
pub record EndsInStyle (f : Scan) (r : Reference) : Type 0 where
  pub out : scan_cut_out f r ≡ as_it_stands r ++ less_kept f
  pub shown : hides f ≡ false

pub record EndsInStyleComment (f : Scan) (r : Reference) : Type 0 where
  pub out : scan_cut_out f r ≡ codes " "
  pub comment : in_style_comment f ≡ true

abbrev pub EndLaw : Ending → Scan → Reference → Type 0
EndLaw ending.Loose f r = EndsLoose f r
EndLaw ending.BehindLess f r = EndsBehindLess f r
EndLaw ending.InComment f r = EndsInComment f r
EndLaw ending.InStyle f r = EndsInStyle f r
EndLaw ending.InStyleComment f r = EndsInStyleComment f r
EndLaw ending.InScript f r = Unit {0}

style_end : (p : Css) (r : Reference) → r ≡ Closed → EndLaw (ending_of (At (place.Style p))) (At (place.Style p)) r
style_end (css.Comment true) r h = record { out = refl; comment = refl }
style_end (css.Comment false) r h = record { out = refl; comment = refl }
style_end p r h = record { out = rw h refl; shown = refl }

element_end : (comment : Bool) (s : StyleScan) (h : Pending) (r : Reference) → is_style_comment s ≡ comment → FedBytes comment s (pending_bytes h) → r ≡ Closed → EndLaw (style_ending comment) (InStyleElement s h) r
element_end true s h r n k closed = record { out = hidden-cut (pending_bytes h) s k; comment = n }
element_end false s h r n k closed = record { out = rw closed (cut-behind (pending_bytes h) s k n); shown = shown-element h s n }

pub end_law : (f : Scan) (r : Reference) → IsRead f → (bears f ≡ false → r ≡ Closed) → EndLaw (ending_of f) f r
end_law (At place.Text) r i h = record { out = refl; less = refl; shown = refl }
end_law (At (place.Rcdata e)) r i h = record { out = refl; less = refl; shown = refl }
end_law (At (place.Value v)) r i h = record { out = refl; less = refl; shown = refl }
end_law (At (place.Tag t)) r i h = record { out = refl; less = refl; shown = refl }
end_law (At place.Doctype) r i h = record { out = refl; less = refl; shown = refl }
end_law (At (place.Comment dash)) r i h = record { out = rw (h refl) refl; hidden = refl }
end_law (At (place.Script s)) r i h = tt
end_law (At (place.Style p)) r i h = style_end p r (h refl)
end_law (At (place.Block s)) r i h = record { out = refl; less = refl; shown = refl }
end_law AfterLess r i h = record { more = []; less = refl; out = refl; shown = refl }
end_law AfterLessSolidus r i h = record { more = codes "/"; less = refl; out = append_assoc (as_it_stands r) (codes "&lt;") (codes "/"); shown = refl }
end_law (InDeclaration bytes) r i h = record { more = codes "!" ++ bytes; less = refl; out = append_assoc (as_it_stands r) (codes "&lt;") (codes "!" ++ bytes); shown = refl }
end_law (InTagName ends name) r i h = record { out = rw (h refl) refl; less = refl; shown = refl }
end_law (InAttributeName t typed name) r i h = record { out = rw (h refl) refl; less = refl; shown = refl }
end_law (InCommentEnd s) r i h = record { out = refl; hidden = refl }
end_law (InContentEnd element.DataBlock p) r i h = record { out = rw (h refl) refl; less = refl; shown = refl }
end_law (InContentEnd e Nothing) r i h = absurd i
end_law (InContentEnd e PendingLess) r i h = record { more = []; less = refl; out = rw (h refl) refl; shown = refl }
end_law (InContentEnd e (PendingName letters)) r i h = record { more = codes "/" ++ letters; less = refl; out = rw (h refl) refl; shown = refl }
end_law (InContentEnd e LessAtCut) r i h = absurd i
end_law (InContentEnd e PendingBang) r i h = absurd i
end_law (InContentEnd e PendingBangDash) r i h = absurd i
end_law (InContentEnd e (PendingOpening letters)) r i h = absurd i
end_law (InStyleElement s p) r i h = element_end (is_style_comment s) s p r refl (fed-pending p (is_style_comment s) s i refl) (h refl)
end_law (InScriptElement n p) r i h = tt
end_law (InUrl v t z) r i h = record { out = refl; less = refl; shown = refl }
end_law (InStyle v s z) r i h = record { out = refl; less = refl; shown = refl }
end_law (InScript v n z) r i h = record { out = refl; less = refl; shown = refl }
end_law (BeforeType t) r i h = record { out = refl; less = refl; shown = refl }
end_law (InType t q v z) r i h = record { out = refl; less = refl; shown = refl }

pub end_here : (e : Ending) (text : List ℕ) (index : ℕ) (x : WriteProgress) → IsProgressKept text index x → e ≡ ending_of (scan_of text index x) → EndLaw e (scan_of text index x) (reference_of text x)
end_here e text index x kept is = subst (λ (e : Ending). EndLaw e (scan_of text index x) (reference_of text x)) (sym is) (end_law (scan_of text index x) (reference_of text x) (is_read text index x.scan kept.letters) kept.closed)

-- what is written there
pub end_bytes : (old mid new free r run more out : List ℕ) → mid ≡ old ++ (run ++ codes "&lt;") → run ≡ free ++ r → new ≡ mid ++ more → out ≡ r ++ (codes "&lt;" ++ more) → new ≡ old ++ (free ++ out)
end_bytes old mid new free r run more out wrote runs ends is =
    ends
    ∙ ap (λ (xs : List ℕ). xs ++ more) (wrote ∙ ap (λ (xs : List ℕ). old ++ (xs ++ codes "&lt;")) runs)
    ∙ append_assoc old ((free ++ r) ++ codes "&lt;") more
    ∙ ap (λ (xs : List ℕ). old ++ xs) (append_assoc (free ++ r) (codes "&lt;") more ∙ append_assoc free r (codes "&lt;" ++ more) ∙ ap (λ (xs : List ℕ). free ++ xs) (sym is))
