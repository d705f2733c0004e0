-- The bytes that are written of a text in a string are plain there.
use Rattle.std.proofs.Common.{◌≡◌, ◌==◌, ℕ, Bool, true, false, List, [], ◌∷◌, refl, ap}
use Rattle.js_lexer.specs.BackLaws.{in_string}
use Rattle.js_lexer.specs.Classes.{class_of}
use Rattle.js_lexer.specs.Events.{ScriptEvent}
use Rattle.js_lexer.specs.Feeding.{feed_class, script_emits_class, script_reading}
use Rattle.js_lexer.specs.Holes.{IsBetweenEscapes}
use Rattle.js_lexer.specs.Plain.{only_bytes, IsPlainInScript}
use Rattle.js_lexer.specs.Sanitizers.{string_rows, js_string}
use Rattle.js_lexer.specs.States.{NoEscape, At, InString, PartLines, Trail, ScriptState}
use Rattle.js_lexer.specs.WhiteSpace.{released, held_after}
use Rattle.js_lexer.specs.declared.class.ScriptClass.{ScriptClass}
use Rattle.js_lexer.specs.declared.class.ScriptClass.TheVariants as class
use Rattle.js_lexer.proofs.OpenBytes.{between_escapes, between, IsWithin, within, Stays, EachWritten, no-true, never, is_fine, byte-fine, leaves, apart-from, escaped-stays}

abbrev string_at : Bool → At
string_at q = InString q NoEscape

rows-stay : (q : Bool) → EachWritten (Stays (string_at q)) string_rows
unfolding class_of released held_after
rows-stay true = (
  λ f m k l z t h. record { fresh = _; markup = _; bracket = _; literal = _; lines = _; stands = refl; told = h },
  (
    λ f m k l z t h. record { fresh = _; markup = _; bracket = _; literal = _; lines = _; stands = refl; told = h },
    (
      λ f m k l z t h. record { fresh = _; markup = _; bracket = _; literal = _; lines = _; stands = refl; told = h },
      (
        λ f m k l z t h. record { fresh = _; markup = _; bracket = _; literal = _; lines = _; stands = refl; told = h },
        (
          λ f m k l z t h. record { fresh = _; markup = _; bracket = _; literal = _; lines = _; stands = refl; told = h },
          (
            λ f m k l z t h. record { fresh = _; markup = _; bracket = _; literal = _; lines = _; stands = refl; told = h },
            (
              λ f m k l z t h. record { fresh = _; markup = _; bracket = _; literal = _; lines = _; stands = refl; told = h },
              (
                λ f m k l z t h. record { fresh = _; markup = _; bracket = _; literal = _; lines = _; stands = refl; told = h },
                (
                  λ f m k l z t h. record { fresh = _; markup = _; bracket = _; literal = _; lines = _; stands = refl; told = h },
                  (
                    λ f m k l z t h. record { fresh = _; markup = _; bracket = _; literal = _; lines = _; stands = refl; told = h },
                    (
                      λ f m k l z t h. record { fresh = _; markup = _; bracket = _; literal = _; lines = _; stands = refl; told = h },
                      (
                        λ f m k l z t h. record { fresh = _; markup = _; bracket = _; literal = _; lines = _; stands = refl; told = h },
                        (
                          λ f m k l z t h. record { fresh = _; markup = _; bracket = _; literal = _; lines = _; stands = refl; told = h },
                          (
                            λ f m k l z t h. record { fresh = _; markup = _; bracket = _; literal = _; lines = _; stands = refl; told = h },
                            (
                              λ f m k l z t h. record { fresh = _; markup = _; bracket = _; literal = _; lines = _; stands = refl; told = h },
                              (
                                λ f m k l z t h. record { fresh = _; markup = _; bracket = _; literal = _; lines = _; stands = refl; told = h },
                                (
                                  λ f m k l z t h. record { fresh = _; markup = _; bracket = _; literal = _; lines = _; stands = refl; told = h },
                                  tt,
                                ),
                              ),
                            ),
                          ),
                        ),
                      ),
                    ),
                  ),
                ),
              ),
            ),
          ),
        ),
      ),
    ),
  ),
)
rows-stay false = (
  λ f m k l z t h. record { fresh = _; markup = _; bracket = _; literal = _; lines = _; stands = refl; told = h },
  (
    λ f m k l z t h. record { fresh = _; markup = _; bracket = _; literal = _; lines = _; stands = refl; told = h },
    (
      λ f m k l z t h. record { fresh = _; markup = _; bracket = _; literal = _; lines = _; stands = refl; told = h },
      (
        λ f m k l z t h. record { fresh = _; markup = _; bracket = _; literal = _; lines = _; stands = refl; told = h },
        (
          λ f m k l z t h. record { fresh = _; markup = _; bracket = _; literal = _; lines = _; stands = refl; told = h },
          (
            λ f m k l z t h. record { fresh = _; markup = _; bracket = _; literal = _; lines = _; stands = refl; told = h },
            (
              λ f m k l z t h. record { fresh = _; markup = _; bracket = _; literal = _; lines = _; stands = refl; told = h },
              (
                λ f m k l z t h. record { fresh = _; markup = _; bracket = _; literal = _; lines = _; stands = refl; told = h },
                (
                  λ f m k l z t h. record { fresh = _; markup = _; bracket = _; literal = _; lines = _; stands = refl; told = h },
                  (
                    λ f m k l z t h. record { fresh = _; markup = _; bracket = _; literal = _; lines = _; stands = refl; told = h },
                    (
                      λ f m k l z t h. record { fresh = _; markup = _; bracket = _; literal = _; lines = _; stands = refl; told = h },
                      (
                        λ f m k l z t h. record { fresh = _; markup = _; bracket = _; literal = _; lines = _; stands = refl; told = h },
                        (
                          λ f m k l z t h. record { fresh = _; markup = _; bracket = _; literal = _; lines = _; stands = refl; told = h },
                          (
                            λ f m k l z t h. record { fresh = _; markup = _; bracket = _; literal = _; lines = _; stands = refl; told = h },
                            (
                              λ f m k l z t h. record { fresh = _; markup = _; bracket = _; literal = _; lines = _; stands = refl; told = h },
                              (
                                λ f m k l z t h. record { fresh = _; markup = _; bracket = _; literal = _; lines = _; stands = refl; told = h },
                                (
                                  λ f m k l z t h. record { fresh = _; markup = _; bracket = _; literal = _; lines = _; stands = refl; told = h },
                                  tt,
                                ),
                              ),
                            ),
                          ),
                        ),
                      ),
                    ),
                  ),
                ),
              ),
            ),
          ),
        ),
      ),
    ),
  ),
)

class-stays : (q : Bool) (c : ScriptClass) (b : ℕ) → is_fine c false ≡ true → b == 92 ≡ false
    → (f : Bool) (m : List ℕ) (k l : ℕ) (z : PartLines) (t : List ScriptEvent) → only_bytes t ≡ true
    → IsWithin (string_at q) (script_reading (feed_class (in_string q (between_escapes f m k l z)) c b) (script_emits_class (in_string q (between_escapes f m k l z)) c b t))
class-stays q class.LineEnd b g e f m k l z t h = absurd (no-true g)
class-stays q class.QuotationMark b g e f m k l z t h = absurd (no-true g)
class-stays q class.Apostrophe b g e f m k l z t h = absurd (no-true g)
class-stays true c b g e f m k l z t h =
    let s = in_string true (between_escapes f m k l z) in
    within (string_at true) (script_reading (feed_class s c b) (script_emits_class s c b t)) (rw e refl) (rw e h)
class-stays false c b g e f m k l z t h =
    let s = in_string false (between_escapes f m k l z) in
    within (string_at false) (script_reading (feed_class s c b) (script_emits_class s c b t)) (rw e refl) (rw e h)

none-line : (bs : List ℕ) → leaves string_rows (10 ∷ bs) ≡ false
unfolding lib.Utf8.encode
none-line bs = refl

none-return : (bs : List ℕ) → leaves string_rows (13 ∷ bs) ≡ false
unfolding lib.Utf8.encode
none-return bs = refl

none-double : (bs : List ℕ) → leaves string_rows (34 ∷ bs) ≡ false
unfolding lib.Utf8.encode
none-double bs = refl

none-quote : (bs : List ℕ) → leaves string_rows (39 ∷ bs) ≡ false
unfolding lib.Utf8.encode
none-quote bs = refl

none-backslash : (bs : List ℕ) → leaves string_rows (92 ∷ bs) ≡ false
unfolding lib.Utf8.encode
none-backslash bs = refl

byte-stays : (q : Bool) (b : ℕ) (bs : List ℕ) → leaves string_rows (b ∷ bs) ≡ true → Stays (string_at q) (b ∷ [])
byte-stays q b bs h =
    let apart : (n : ℕ) → ((cs : List ℕ) → leaves string_rows (n ∷ cs) ≡ false) → b == n ≡ false = λ n none. apart-from string_rows n none b bs h (b == n) refl in
    let fine =
    byte-fine false b (apart 10 none-line) (apart 13 none-return)
    (λ e. absurd (never (b == 34) (apart 34 none-double) e)) (λ e. absurd (never (b == 39) (apart 39 none-quote) e)) (λ e. refl) (λ e. refl) (λ e. refl) in
    λ f m k l z t g. class-stays q (class_of b) b fine (apart 92 none-backslash) f m k l z t g

plain-here : (q f : Bool) (m : List ℕ) (k l : ℕ) (z : PartLines) (value : List ℕ) → IsPlainInScript (js_string value) (in_string q (between_escapes f m k l z))
plain-here q f m k l z value =
    let is = escaped-stays (string_at q) string_rows (rows-stay q) (byte-stays q) 0 value f m k l z [] refl in
    record {
      apart = refl;
      leads = record {
        at = ap (λ (s : ScriptState). s.at) is.stands;
        outside = refl;
        within = ap (λ (s : ScriptState). s.literals) is.stands;
        whole_before = record { none = refl; closed = refl };
        whole_after = record { none = ap (λ (s : ScriptState). s.trail.escape) is.stands; closed = ap (λ (s : ScriptState). s.trail.brace) is.stands };
        settled = refl;
        released = ap (λ (s : ScriptState). s.held) is.stands;
      };
      tells = is.told;
      written = tt;
    }

pub string-plain : (q : Bool) (t : Trail) (value : List ℕ) → IsBetweenEscapes t → IsPlainInScript (js_string value) (in_string q t)
string-plain q t value is = between (λ (u : Trail). IsPlainInScript (js_string value) (in_string q u)) (λ f m k l z. plain-here q f m k l z value) t is
