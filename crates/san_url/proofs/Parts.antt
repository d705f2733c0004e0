-- What is written for a text is plain in its part and reads back, by the two laws on sanitizers of URLs.
use Rattle.std.proofs.Common.{◌≡◌, ℕ, suc, ◌<◌, List, [], ◌∷◌, None, sym, ap, ◌∙◌, subst, get_or}
use Rattle.std.proofs.lemmas.Bool.{lt-ltb}
use Rattle.url_lexer.specs.Back.{ReadsBack}
use Rattle.url_lexer.specs.Parts.{UrlPart}
use Rattle.url_lexer.specs.Plain.{IsPlainInUrl}
use Rattle.url_lexer.specs.Refusals.{refuses_hole_in}
use Rattle.url_lexer.specs.Sanitizers.{written_in}
use Rattle.url_lexer.specs.Written.{AreBytes, WrittenIsPlain, WrittenReadsBack}
use Rattle.san_url.specs.Back.{IsBackInPart}

pub are-bytes : (bs : List ℕ) → ((i : ℕ) → get_or bs i 0 < 256) → AreBytes bs
are-bytes [] h = tt
are-bytes (b ∷ bs) h = (lt-ltb b 256 (h 0), are-bytes bs (λ i. h (suc i)))

pub back-in-part : WrittenIsPlain → WrittenReadsBack → (p : UrlPart) (text bytes : List ℕ) → AreBytes text → refuses_hole_in p ≡ None → bytes ≡ written_in p text → IsBackInPart p text bytes
back-in-part plain reads p text bytes a h e = record {
  plain = λ v w is alike whole. subst (λ (z : List ℕ). IsPlainInUrl z w) (ap (λ (q : UrlPart). written_in q text) is ∙ sym e) (plain v w text a alike whole (ap refuses_hole_in is ∙ h));
  reads = subst (ReadsBack p text) (sym e) (reads p text a h);
}
