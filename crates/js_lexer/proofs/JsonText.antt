-- What is written of a text in JSON is read as one string, of which each byte is told as it stands.
use Rattle.std.proofs.Common.{◌≡◌, ◌==◌, ℕ, zero, suc, Bool, true, false, arith, List, [], ◌∷◌, ◌++◌, refl, sym, subst}
use Rattle.std.proofs.lemmas.Bool.Decides.{nat_tests}
use Rattle.js_lexer.specs.Classes.{class_of}
use Rattle.js_lexer.specs.Events.{ScriptEvent, StringBegins, ScriptByte, script_bytes}
use Rattle.js_lexer.specs.Feeding.{feed_class, script_emits_class, ScriptReading, script_reading, read_on}
use Rattle.js_lexer.specs.Plain.{text_events}
use Rattle.js_lexer.specs.Sanitizers.{escaped_at, taken_at, escaped_from, escaped, text_rows}
use Rattle.js_lexer.specs.States.{NoEscape, At, Code, InString, PartLines}
use Rattle.js_lexer.specs.WhiteSpace.{released, held_after}
use Rattle.js_lexer.specs.declared.class.ScriptClass.{ScriptClass}
use Rattle.js_lexer.specs.declared.class.ScriptClass.TheVariants as class
use Rattle.js_lexer.specs.declared.sense.Sense.TheVariants as sense
use Rattle.js_lexer.proofs.OpenBytes.{open_at, between_escapes, EachWritten, no-true, never, is_fine, byte-fine, leaves, written-at, apart-from, read-append}

-- a reading that stands there, and has told that
pub record IsRead (c : At) (u : List ScriptEvent) (r : ScriptReading) : Type 0 where
  pub fresh : Bool
  pub markup : List ℕ
  pub bracket : ℕ
  pub literal : ℕ
  pub lines : PartLines
  pub is : r ≡ script_reading (open_at c (between_escapes fresh markup bracket literal lines)) u

pub read-here : (c : At) (u : List ScriptEvent) (r : ScriptReading)
    → r ≡ script_reading (open_at c (between_escapes r.state.trail.fresh r.state.trail.markup r.state.trail.bracket r.state.trail.literal r.state.trail.lines)) u → IsRead c u r
read-here c u r e = record { fresh = r.state.trail.fresh; markup = r.state.trail.markup; bracket = r.state.trail.bracket; literal = r.state.trail.literal; lines = r.state.trail.lines; is = e }

-- bytes that lead from the one place to the other, and what is told before and after
abbrev pub Reads : At → At → List ℕ → List ScriptEvent → List ScriptEvent → Type 0
Reads a c bytes t u = (f : Bool) (m : List ℕ) (k l : ℕ) (z : PartLines) → IsRead c u (read_on bytes (script_reading (open_at a (between_escapes f m k l z)) t))

pub then-reads : (a c e : At) (xs ys : List ℕ) (t u v : List ScriptEvent) → Reads a c xs t u → Reads c e ys u v → Reads a e (xs ++ ys) t v
then-reads a c e xs ys t u v one other f m k l z =
    let from = script_reading (open_at a (between_escapes f m k l z)) t in
    let is = one f m k l z in
    let there = other is.fresh is.markup is.bracket is.literal is.lines in
    subst (IsRead e v) (sym (read-append xs ys from)) (subst (λ (r : ScriptReading). IsRead e v (read_on ys r)) (sym is.is) there)

pub bytes-append : (xs ys : List ℕ) (t : List ScriptEvent) → script_bytes (xs ++ ys) t ≡ script_bytes ys (script_bytes xs t)
bytes-append [] ys t = refl
bytes-append (x ∷ xs) ys t = bytes-append xs ys (ScriptByte x ∷ t)

abbrev in_text : At
in_text = InString true NoEscape

-- bytes of the string, told as they stand
abbrev IsSame : List ℕ → Type 0
IsSame bytes = (t : List ScriptEvent) → Reads in_text in_text bytes t (script_bytes bytes t)

rows-same : EachWritten IsSame text_rows
unfolding class_of released held_after
rows-same = (
  λ t f m k l z. record { fresh = _; markup = _; bracket = _; literal = _; lines = _; is = refl },
  (
    λ t f m k l z. record { fresh = _; markup = _; bracket = _; literal = _; lines = _; is = refl },
    (
      λ t f m k l z. record { fresh = _; markup = _; bracket = _; literal = _; lines = _; is = refl },
      (
        λ t f m k l z. record { fresh = _; markup = _; bracket = _; literal = _; lines = _; is = refl },
        (
          λ t f m k l z. record { fresh = _; markup = _; bracket = _; literal = _; lines = _; is = refl },
          (
            λ t f m k l z. record { fresh = _; markup = _; bracket = _; literal = _; lines = _; is = refl },
            (
              λ t f m k l z. record { fresh = _; markup = _; bracket = _; literal = _; lines = _; is = refl },
              (
                λ t f m k l z. record { fresh = _; markup = _; bracket = _; literal = _; lines = _; is = refl },
                (
                  λ t f m k l z. record { fresh = _; markup = _; bracket = _; literal = _; lines = _; is = refl },
                  (
                    λ t f m k l z. record { fresh = _; markup = _; bracket = _; literal = _; lines = _; is = refl },
                    (
                      λ t f m k l z. record { fresh = _; markup = _; bracket = _; literal = _; lines = _; is = refl },
                      (
                        λ t f m k l z. record { fresh = _; markup = _; bracket = _; literal = _; lines = _; is = refl },
                        (
                          λ t f m k l z. record { fresh = _; markup = _; bracket = _; literal = _; lines = _; is = refl },
                          (
                            λ t f m k l z. record { fresh = _; markup = _; bracket = _; literal = _; lines = _; is = refl },
                            (
                              λ t f m k l z. record { fresh = _; markup = _; bracket = _; literal = _; lines = _; is = refl },
                              (
                                λ t f m k l z. record { fresh = _; markup = _; bracket = _; literal = _; lines = _; is = refl },
                                (
                                  λ t f m k l z. record { fresh = _; markup = _; bracket = _; literal = _; lines = _; is = refl },
                                  (
                                    λ t f m k l z. record { fresh = _; markup = _; bracket = _; literal = _; lines = _; is = refl },
                                    (
                                      λ t f m k l z. record { fresh = _; markup = _; bracket = _; literal = _; lines = _; is = refl },
                                      (
                                        λ t f m k l z. record { fresh = _; markup = _; bracket = _; literal = _; lines = _; is = refl },
                                        (
                                          λ t f m k l z. record { fresh = _; markup = _; bracket = _; literal = _; lines = _; is = refl },
                                          (
                                            λ t f m k l z. record { fresh = _; markup = _; bracket = _; literal = _; lines = _; is = refl },
                                            (
                                              λ t f m k l z. record { fresh = _; markup = _; bracket = _; literal = _; lines = _; is = refl },
                                              (
                                                λ t f m k l z. record { fresh = _; markup = _; bracket = _; literal = _; lines = _; is = refl },
                                                (
                                                  λ t f m k l z. record { fresh = _; markup = _; bracket = _; literal = _; lines = _; is = refl },
                                                  (
                                                    λ t f m k l z. record { fresh = _; markup = _; bracket = _; literal = _; lines = _; is = refl },
                                                    (
                                                      λ t f m k l z. record { fresh = _; markup = _; bracket = _; literal = _; lines = _; is = refl },
                                                      (
                                                        λ t f m k l z. record { fresh = _; markup = _; bracket = _; literal = _; lines = _; is = refl },
                                                        (
                                                          λ t f m k l z. record { fresh = _; markup = _; bracket = _; literal = _; lines = _; is = refl },
                                                          (
                                                            λ t f m k l z. record { fresh = _; markup = _; bracket = _; literal = _; lines = _; is = refl },
                                                            (
                                                              λ t f m k l z. record { fresh = _; markup = _; bracket = _; literal = _; lines = _; is = refl },
                                                              (
                                                                λ t f m k l z. record { fresh = _; markup = _; bracket = _; literal = _; lines = _; is = refl },
                                                                (
                                                                  λ t f m k l z. record { fresh = _; markup = _; bracket = _; literal = _; lines = _; is = refl },
                                                                  (
                                                                    λ t f m k l z. record { fresh = _; markup = _; bracket = _; literal = _; lines = _; is = refl },
                                                                    (
                                                                      λ t f m k l z. record { fresh = _; markup = _; bracket = _; literal = _; lines = _; is = refl },
                                                                      (
                                                                        λ t f m k l z. record { fresh = _; markup = _; bracket = _; literal = _; lines = _; is = refl },
                                                                        (
                                                                          λ t f m k l z. record { fresh = _; markup = _; bracket = _; literal = _; lines = _; is = refl },
                                                                          (
                                                                            λ t f m k l z. record { fresh = _; markup = _; bracket = _; literal = _; lines = _; is = refl },
                                                                            (
                                                                              λ t f m k l z. record { fresh = _; markup = _; bracket = _; literal = _; lines = _; is = refl },
                                                                              (
                                                                                λ t f m k l z. record { fresh = _; markup = _; bracket = _; literal = _; lines = _; is = refl },
                                                                                (
                                                                                  λ t f m k l z. record { fresh = _; markup = _; bracket = _; literal = _; lines = _; is = refl },
                                                                                  (
                                                                                    λ t f m k l z. record { fresh = _; markup = _; bracket = _; literal = _; lines = _; is = refl },
                                                                                    tt,
                                                                                  ),
                                                                                ),
                                                                              ),
                                                                            ),
                                                                          ),
                                                                        ),
                                                                      ),
                                                                    ),
                                                                  ),
                                                                ),
                                                              ),
                                                            ),
                                                          ),
                                                        ),
                                                      ),
                                                    ),
                                                  ),
                                                ),
                                              ),
                                            ),
                                          ),
                                        ),
                                      ),
                                    ),
                                  ),
                                ),
                              ),
                            ),
                          ),
                        ),
                      ),
                    ),
                  ),
                ),
              ),
            ),
          ),
        ),
      ),
    ),
  ),
)

class-same : (c : ScriptClass) (b : ℕ) → is_fine c false ≡ true → b == 92 ≡ false → (t : List ScriptEvent) (f : Bool) (m : List ℕ) (k l : ℕ) (z : PartLines)
    → IsRead in_text (ScriptByte b ∷ t)
    (script_reading (feed_class (open_at in_text (between_escapes f m k l z)) c b) (script_emits_class (open_at in_text (between_escapes f m k l z)) c b t))
class-same class.LineEnd b g e t f m k l z = absurd (no-true g)
class-same class.QuotationMark b g e t f m k l z = absurd (no-true g)
class-same class.Apostrophe b g e t f m k l z = absurd (no-true g)
class-same c b g e t f m k l z =
    let s = open_at in_text (between_escapes f m k l z) in
    read-here in_text (ScriptByte b ∷ t) (script_reading (feed_class s c b) (script_emits_class s c b t)) (rw e refl)

none-line : (bs : List ℕ) → leaves text_rows (10 ∷ bs) ≡ false
unfolding lib.Utf8.encode
none-line bs = refl

none-return : (bs : List ℕ) → leaves text_rows (13 ∷ bs) ≡ false
unfolding lib.Utf8.encode
none-return bs = refl

none-quote : (bs : List ℕ) → leaves text_rows (34 ∷ bs) ≡ false
unfolding lib.Utf8.encode
none-quote bs = refl

none-backslash : (bs : List ℕ) → leaves text_rows (92 ∷ bs) ≡ false
unfolding lib.Utf8.encode
none-backslash bs = refl

-- an apostrophe, which no row is of, ends no string in quotation marks
apostrophe-same : IsSame (39 ∷ [])
unfolding class_of
apostrophe-same t f m k l z = record { fresh = _; markup = _; bracket = _; literal = _; lines = _; is = refl }

same-if : (b : ℕ) (x : Bool) → b == 39 ≡ x → (x ≡ false → IsSame (b ∷ [])) → IsSame (b ∷ [])
same-if b true e h =
    let same : b ≡ 39 = grind (arith, nat_tests) in
    subst (λ (c : ℕ). IsSame (c ∷ [])) (sym same) apostrophe-same
same-if b false e h = h refl

byte-same : (b : ℕ) (bs : List ℕ) → leaves text_rows (b ∷ bs) ≡ true → IsSame (b ∷ [])
byte-same b bs h =
    let apart : (n : ℕ) → ((cs : List ℕ) → leaves text_rows (n ∷ cs) ≡ false) → b == n ≡ false = λ n none. apart-from text_rows n none b bs h (b == n) refl in
    same-if b (b == 39) refl
    (λ quote.
    let fine =
    byte-fine false b (apart 10 none-line) (apart 13 none-return)
    (λ e. absurd (never (b == 34) (apart 34 none-quote) e)) (λ e. absurd (never (b == 39) quote e)) (λ e. refl) (λ e. refl) (λ e. refl) in
    λ t f m k l z. class-same (class_of b) b fine (apart 92 none-backslash) t f m k l z)

append-same : (xs ys : List ℕ) → IsSame xs → IsSame ys → IsSame (xs ++ ys)
append-same xs ys one other t =
    subst (λ (u : List ScriptEvent). Reads in_text in_text (xs ++ ys) t u) (sym (bytes-append xs ys t))
    (then-reads in_text in_text in_text xs ys t (script_bytes xs t) (script_bytes ys (script_bytes xs t)) (one t) (other (script_bytes xs t)))

escaped-same : (n : ℕ) (bs : List ℕ) → IsSame (escaped_from text_rows n bs)
escaped-same zero [] t f m k l z = record { fresh = f; markup = m; bracket = k; literal = l; lines = z; is = refl }
escaped-same (suc n) [] t f m k l z = record { fresh = f; markup = m; bracket = k; literal = l; lines = z; is = refl }
escaped-same (suc n) (b ∷ bs) t f m k l z = escaped-same n bs t f m k l z
escaped-same zero (b ∷ bs) t f m k l z =
    append-same (escaped_at text_rows (b ∷ bs)) (escaped_from text_rows (taken_at text_rows (b ∷ bs)) bs)
    (written-at IsSame text_rows b bs rows-same (byte-same b bs)) (escaped-same (taken_at text_rows (b ∷ bs)) bs) t f m k l z

quote-ends : (t : List ScriptEvent) → Reads in_text (Code sense.Div) (34 ∷ []) t (ScriptByte 34 ∷ t)
unfolding class_of
quote-ends t f m k l z = record { fresh = _; markup = _; bracket = _; literal = _; lines = _; is = refl }

-- behind the quotation mark that begins it
pub text-goes : (bytes : List ℕ) (t : List ScriptEvent)
    → Reads (InString true NoEscape) (Code sense.Div) (escaped text_rows bytes ++ 34 ∷ []) (ScriptByte 34 ∷ StringBegins ∷ t) (text_events bytes t)
text-goes bytes t =
    let inner = escaped text_rows bytes in
    let before = ScriptByte 34 ∷ StringBegins ∷ t in
    subst (λ (u : List ScriptEvent). Reads in_text (Code sense.Div) (inner ++ 34 ∷ []) before u) (sym (bytes-append inner (34 ∷ []) before))
    (then-reads in_text in_text (Code sense.Div) inner (34 ∷ []) before (script_bytes inner before) (ScriptByte 34 ∷ script_bytes inner before)
    (escaped-same 0 bytes before) (quote-ends (script_bytes inner before)))
