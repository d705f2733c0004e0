-- The bytes that are written of a text in a regular expression are plain there.
use Rattle.std.proofs.Common.{◌≡◌, ◌≢◌, ◌&&◌, ◌==◌, ℕ, Bool, true, false, List, [], ◌∷◌, ◌++◌, refl, ap, subst}
use Rattle.js_lexer.specs.BackLaws.{in_regexp, behind_slash}
use Rattle.js_lexer.specs.Classes.{class_of}
use Rattle.js_lexer.specs.Events.{ScriptEvent, RegexpBegins, ScriptByte}
use Rattle.js_lexer.specs.Feeding.{feed_class, script_emits_class, script_reading, read_on}
use Rattle.js_lexer.specs.Holes.{IsBetweenEscapes}
use Rattle.js_lexer.specs.Plain.{only_bytes, IsPlainInScript}
use Rattle.js_lexer.specs.Sanitizers.{Rows, escaped_at, taken_at, escaped_from, string_rows, regexp_rows, empty_expression, js_regexp}
use Rattle.js_lexer.specs.States.{NoEscape, At, InRegexp, PartLines, Trail, ScriptState}
use Rattle.js_lexer.specs.WhiteSpace.{released, held_after}
use Rattle.js_lexer.specs.declared.class.ScriptClass.{ScriptClass}
use Rattle.js_lexer.specs.declared.class.ScriptClass.TheVariants as class
use Rattle.js_lexer.proofs.OpenBytes.{between_escapes, between, IsWithin, within, Stays, EachWritten, no-true, never, is_fine, byte-fine, leaves, written-at, apart-from, escaped-stays}
use Rattle.js_lexer.proofs.ReadBack.{syntax_rows}

abbrev regexp_at : At
regexp_at = InRegexp false NoEscape

rows-stay : EachWritten (Stays regexp_at) string_rows
unfolding class_of released held_after
rows-stay = (
  λ f m k l z t h. record { fresh = _; markup = _; bracket = _; literal = _; lines = _; stands = refl; told = h },
  (
    λ f m k l z t h. record { fresh = _; markup = _; bracket = _; literal = _; lines = _; stands = refl; told = h },
    (
      λ f m k l z t h. record { fresh = _; markup = _; bracket = _; literal = _; lines = _; stands = refl; told = h },
      (
        λ f m k l z t h. record { fresh = _; markup = _; bracket = _; literal = _; lines = _; stands = refl; told = h },
        (
          λ f m k l z t h. record { fresh = _; markup = _; bracket = _; literal = _; lines = _; stands = refl; told = h },
          (
            λ f m k l z t h. record { fresh = _; markup = _; bracket = _; literal = _; lines = _; stands = refl; told = h },
            (
              λ f m k l z t h. record { fresh = _; markup = _; bracket = _; literal = _; lines = _; stands = refl; told = h },
              (
                λ f m k l z t h. record { fresh = _; markup = _; bracket = _; literal = _; lines = _; stands = refl; told = h },
                (
                  λ f m k l z t h. record { fresh = _; markup = _; bracket = _; literal = _; lines = _; stands = refl; told = h },
                  (
                    λ f m k l z t h. record { fresh = _; markup = _; bracket = _; literal = _; lines = _; stands = refl; told = h },
                    (
                      λ f m k l z t h. record { fresh = _; markup = _; bracket = _; literal = _; lines = _; stands = refl; told = h },
                      (
                        λ f m k l z t h. record { fresh = _; markup = _; bracket = _; literal = _; lines = _; stands = refl; told = h },
                        (
                          λ f m k l z t h. record { fresh = _; markup = _; bracket = _; literal = _; lines = _; stands = refl; told = h },
                          (
                            λ f m k l z t h. record { fresh = _; markup = _; bracket = _; literal = _; lines = _; stands = refl; told = h },
                            (
                              λ f m k l z t h. record { fresh = _; markup = _; bracket = _; literal = _; lines = _; stands = refl; told = h },
                              (
                                λ f m k l z t h. record { fresh = _; markup = _; bracket = _; literal = _; lines = _; stands = refl; told = h },
                                (
                                  λ f m k l z t h. record { fresh = _; markup = _; bracket = _; literal = _; lines = _; stands = refl; told = h },
                                  tt,
                                ),
                              ),
                            ),
                          ),
                        ),
                      ),
                    ),
                  ),
                ),
              ),
            ),
          ),
        ),
      ),
    ),
  ),
)

syntax-stays : EachWritten (Stays regexp_at) syntax_rows
unfolding class_of released held_after
syntax-stays = (
  λ f m k l z t h. record { fresh = _; markup = _; bracket = _; literal = _; lines = _; stands = refl; told = h },
  (
    λ f m k l z t h. record { fresh = _; markup = _; bracket = _; literal = _; lines = _; stands = refl; told = h },
    (
      λ f m k l z t h. record { fresh = _; markup = _; bracket = _; literal = _; lines = _; stands = refl; told = h },
      (
        λ f m k l z t h. record { fresh = _; markup = _; bracket = _; literal = _; lines = _; stands = refl; told = h },
        (
          λ f m k l z t h. record { fresh = _; markup = _; bracket = _; literal = _; lines = _; stands = refl; told = h },
          (
            λ f m k l z t h. record { fresh = _; markup = _; bracket = _; literal = _; lines = _; stands = refl; told = h },
            (
              λ f m k l z t h. record { fresh = _; markup = _; bracket = _; literal = _; lines = _; stands = refl; told = h },
              (
                λ f m k l z t h. record { fresh = _; markup = _; bracket = _; literal = _; lines = _; stands = refl; told = h },
                (
                  λ f m k l z t h. record { fresh = _; markup = _; bracket = _; literal = _; lines = _; stands = refl; told = h },
                  (
                    λ f m k l z t h. record { fresh = _; markup = _; bracket = _; literal = _; lines = _; stands = refl; told = h },
                    (
                      λ f m k l z t h. record { fresh = _; markup = _; bracket = _; literal = _; lines = _; stands = refl; told = h },
                      (
                        λ f m k l z t h. record { fresh = _; markup = _; bracket = _; literal = _; lines = _; stands = refl; told = h },
                        (λ f m k l z t h. record { fresh = _; markup = _; bracket = _; literal = _; lines = _; stands = refl; told = h }, tt),
                      ),
                    ),
                  ),
                ),
              ),
            ),
          ),
        ),
      ),
    ),
  ),
)

both-stay : (rows more : Rows) → EachWritten (Stays regexp_at) rows → EachWritten (Stays regexp_at) more → EachWritten (Stays regexp_at) (rows ++ more)
both-stay [] more are are_more = are_more
both-stay (row ∷ rows) more are are_more = (are.0, both-stay rows more are.1 are_more)

class-stays : (c : ScriptClass) (b : ℕ) → is_fine c true ≡ true → b == 92 ≡ false → (f : Bool) (m : List ℕ) (k l : ℕ) (z : PartLines) (t : List ScriptEvent) → only_bytes t ≡ true
    → IsWithin regexp_at (script_reading (feed_class (in_regexp (between_escapes f m k l z)) c b) (script_emits_class (in_regexp (between_escapes f m k l z)) c b t))
class-stays class.LineEnd b g e f m k l z t h = absurd (no-true g)
class-stays class.Solidus b g e f m k l z t h = absurd (no-true g)
class-stays class.OpenBracket b g e f m k l z t h = absurd (no-true g)
class-stays c b g e f m k l z t h =
    let s = in_regexp (between_escapes f m k l z) in
    within regexp_at (script_reading (feed_class s c b) (script_emits_class s c b t)) (rw e refl) (rw e h)

none-line : (bs : List ℕ) → leaves regexp_rows (10 ∷ bs) ≡ false
unfolding lib.Utf8.encode
none-line bs = refl

none-return : (bs : List ℕ) → leaves regexp_rows (13 ∷ bs) ≡ false
unfolding lib.Utf8.encode
none-return bs = refl

none-slash : (bs : List ℕ) → leaves regexp_rows (47 ∷ bs) ≡ false
unfolding lib.Utf8.encode
none-slash bs = refl

none-star : (bs : List ℕ) → leaves regexp_rows (42 ∷ bs) ≡ false
unfolding lib.Utf8.encode
none-star bs = refl

none-bracket : (bs : List ℕ) → leaves regexp_rows (91 ∷ bs) ≡ false
unfolding lib.Utf8.encode
none-bracket bs = refl

none-backslash : (bs : List ℕ) → leaves regexp_rows (92 ∷ bs) ≡ false
unfolding lib.Utf8.encode
none-backslash bs = refl

byte-apart : (b : ℕ) (bs : List ℕ) → leaves regexp_rows (b ∷ bs) ≡ true → (n : ℕ) → ((cs : List ℕ) → leaves regexp_rows (n ∷ cs) ≡ false) → b == n ≡ false
byte-apart b bs h n none = apart-from regexp_rows n none b bs h (b == n) refl

left-fine : (b : ℕ) (bs : List ℕ) → leaves regexp_rows (b ∷ bs) ≡ true → is_fine (class_of b) true ≡ true
left-fine b bs h =
    byte-fine true b (byte-apart b bs h 10 none-line) (byte-apart b bs h 13 none-return) (λ e. refl) (λ e. refl)
    (λ e. absurd (never (b == 47) (byte-apart b bs h 47 none-slash) e))
    (λ e. absurd (never (b == 42) (byte-apart b bs h 42 none-star) e))
    (λ e. absurd (never (b == 91) (byte-apart b bs h 91 none-bracket) e))

byte-stays : (b : ℕ) (bs : List ℕ) → leaves regexp_rows (b ∷ bs) ≡ true → Stays regexp_at (b ∷ [])
byte-stays b bs h f m k l z t g = class-stays (class_of b) b (left-fine b bs h) (byte-apart b bs h 92 none-backslash) f m k l z t g

empty-stays : Stays regexp_at empty_expression
unfolding class_of released held_after
empty-stays f m k l z t h = record { fresh = _; markup = _; bracket = _; literal = _; lines = _; stands = refl; told = h }

written-stays : (value : List ℕ) → Stays regexp_at (js_regexp value)
written-stays [] = empty-stays
written-stays (b ∷ bs) = escaped-stays regexp_at regexp_rows (both-stay string_rows syntax_rows rows-stay syntax-stays) byte-stays 0 (b ∷ bs)

-- Behind the slash: the first byte makes no comment of it.
class-apart : (t : Trail) (told : List ScriptEvent) (c : ScriptClass) (b : ℕ) → is_fine c true ≡ true
    → script_reading (feed_class (behind_slash t) c b) (script_emits_class (behind_slash t) c b told)
    ≡ script_reading (feed_class (in_regexp t) c b) (script_emits_class (in_regexp t) c b (ScriptByte 47 ∷ RegexpBegins ∷ told))
class-apart t told class.Solidus b g = absurd (no-true g)
class-apart t told class.Asterisk b g = absurd (no-true g)
class-apart t told class.LineEnd b g = absurd (no-true g)
class-apart t told class.OpenBracket b g = absurd (no-true g)
class-apart t told c b g = refl

abbrev begins_fine : List ℕ → Bool
begins_fine [] = false
begins_fine (b ∷ bs) = is_fine (class_of b) true

abbrev BeginsFine : List ℕ → Type 0
BeginsFine bytes = begins_fine bytes ≡ true

abbrev all_begin_fine : Rows → Bool
all_begin_fine [] = true
all_begin_fine (row ∷ rows) = begins_fine row.1 && all_begin_fine rows

rows-fine : all_begin_fine regexp_rows ≡ true
unfolding class_of
rows-fine = refl

one-of-both : (x y : Bool) → x && y ≡ true → x ≡ true
one-of-both true y h = refl
one-of-both false y h = h

other-of-both : (x y : Bool) → x && y ≡ true → y ≡ true
other-of-both true y h = h
other-of-both false y h = absurd (no-true h)

each-fine : (rows : Rows) → all_begin_fine rows ≡ true → EachWritten BeginsFine rows
each-fine [] h = tt
each-fine (row ∷ rows) h =
    (one-of-both (begins_fine row.1) (all_begin_fine rows) h, each-fine rows (other-of-both (begins_fine row.1) (all_begin_fine rows) h))

longer-fine : (xs ys : List ℕ) → BeginsFine xs → BeginsFine (xs ++ ys)
longer-fine [] ys h = absurd (no-true h)
longer-fine (x ∷ xs) ys h = h

empty-fine : BeginsFine empty_expression
unfolding class_of
empty-fine = refl

written-fine : (value : List ℕ) → BeginsFine (js_regexp value)
written-fine [] = empty-fine
written-fine (b ∷ bs) =
    longer-fine (escaped_at regexp_rows (b ∷ bs)) (escaped_from regexp_rows (taken_at regexp_rows (b ∷ bs)) bs)
    (written-at BeginsFine regexp_rows b bs (each-fine regexp_rows rows-fine) (left-fine b bs))

-- so something is written
some-written : (value : List ℕ) → js_regexp value ≢ []
some-written value e = no-true (subst BeginsFine e (written-fine value))

plain-here : (f : Bool) (m : List ℕ) (k l : ℕ) (z : PartLines) (value : List ℕ) → IsPlainInScript (js_regexp value) (in_regexp (between_escapes f m k l z))
plain-here f m k l z value =
    let is = written-stays value f m k l z [] refl in
    record {
      apart = refl;
      leads = record {
        at = ap (λ (s : ScriptState). s.at) is.stands;
        outside = refl;
        within = ap (λ (s : ScriptState). s.literals) is.stands;
        whole_before = record { none = refl; closed = refl };
        whole_after = record { none = ap (λ (s : ScriptState). s.trail.escape) is.stands; closed = ap (λ (s : ScriptState). s.trail.brace) is.stands };
        settled = refl;
        released = ap (λ (s : ScriptState). s.held) is.stands;
      };
      tells = is.told;
      written = some-written value;
    }

pub regexp-plain : (t : Trail) (value : List ℕ) → IsBetweenEscapes t → IsPlainInScript (js_regexp value) (in_regexp t)
regexp-plain t value is = between (λ (u : Trail). IsPlainInScript (js_regexp value) (in_regexp u)) (λ f m k l z. plain-here f m k l z value) t is

fine-apart : (t : Trail) (bytes : List ℕ) → BeginsFine bytes
    → read_on bytes (script_reading (behind_slash t) []) ≡ read_on bytes (script_reading (in_regexp t) (ScriptByte 47 ∷ RegexpBegins ∷ []))
fine-apart t [] h = absurd (no-true h)
fine-apart t (b ∷ bs) h = ap (read_on bs) (class-apart t [] (class_of b) b h)

pub first-plain : (t : Trail) (value : List ℕ) → IsBetweenEscapes t → IsPlainInScript (js_regexp value) (behind_slash t)
first-plain t value is =
    let inside = regexp-plain t value is in
    record { apart = fine-apart t (js_regexp value) (written-fine value); leads = inside.leads; tells = inside.tells; written = inside.written }
