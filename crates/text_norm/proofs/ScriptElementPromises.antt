-- What a sanitizer promises of its bytes in the element of a script is what a hole there has to show.
use Rattle.std.proofs.Common.{◌≡◌, ℕ, ◌==◌, Bool, true, false, codes, List, [], ◌∷◌, Some, refl, sym, ap, ◌∙◌, subst, true≢false}
use Rattle.std.proofs.lemmas.Bool.{eqb-true}
use Rattle.html_step.specs.Holes.{only}
use Rattle.js_lexer.proofs.ValueBytes.{begins_value, value-begins}
use Rattle.js_lexer.specs.Holes.{IsBetweenEscapes}
use Rattle.js_lexer.specs.ScriptBack.{IsBackInScriptCode, IsBackInScriptRegexp, IsBackInScriptString}
use Rattle.js_lexer.specs.Spots.{BlockSpot, CodeSpot, LineSpot, NoTail, RegexpSpot, Spot, StringSpot, script_spot}
use Rattle.js_lexer.specs.States.{At, Code, InRegexp, InString, NoEscape, ScriptState, Slash, no_trail}
use Rattle.js_lexer.specs.Trails.{is_empty}
use Rattle.js_lexer.specs.declared.sense.Sense.TheVariants as sense
use Rattle.js_step.specs.ScriptSanitizers.{script_sanitizer}
use Rattle.page_datum.specs.Data.{Data}
use Rattle.page_datum.specs.Printed.{printed}
use Rattle.place_core.specs.place.ScriptParts.{may_begin_text_at, script_may_begin_text, script_place}
use Rattle.place_core.specs.declared.chain.Chain.{Chain}
use Rattle.text_norm.proofs.ScriptElementHoles.{IsScriptElementHole, goes_with_less}
use Rattle.text_norm.proofs.ScriptHoles.{IsComment, IsSettled, Takes, at-all, no-code-comment, regexp-where, script-takes, slash-where, string-where}
use Rattle.text_norm.specs.HoleLaws.{IsBackBy, IsBackInElement, leaves_out}

-- In code a value has a byte, and begins with no `/` and no `!`.
one-not : (k b : ℕ) (bs : List ℕ) (q : Bool) → (b == k) ≡ q → begins_value (k ∷ bs) ≡ false → begins_value (b ∷ bs) ≡ true → (b == k) ≡ false
one-not k b bs true e n h = absurd (true≢false (sym h ∙ ap (λ (z : ℕ). begins_value (z ∷ bs)) (eqb-true b k e) ∙ n))
one-not k b bs false e n h = e

begins-apart : (bytes : List ℕ) → begins_value bytes ≡ true → goes_with_less bytes ≡ false
begins-apart [] h = absurd (true≢false (sym h))
begins-apart (b ∷ bs) h = rw (one-not 47 b bs (b == 47) refl refl h, one-not 33 b bs (b == 33) refl refl h) refl

between : IsBetweenEscapes no_trail
between = record { none = refl; closed = refl }

pub code-begins-apart : (datum : Data) (bytes : List ℕ) → IsBackInScriptCode datum bytes → goes_with_less bytes ≡ false
code-begins-apart datum bytes k =
    let own = (k.plain (Code sense.Re) no_trail tt between).written in
    begins-apart bytes (ap begins_value own.1 ∙ value-begins own.0)

-- In a string and a regular expression no `<` is behind a node's end.
not-behind-less : {A : Type 0} (m : List ℕ) → is_empty m ≡ true → m ≡ codes "<" → A
not-behind-less m h e = absurd (true≢false (sym h ∙ ap is_empty e))

none-kept : (a d : At) (m : List ℕ) → a ≡ d → may_begin_text_at a m ≡ true → may_begin_text_at d m ≡ true
none-kept a d m e b = subst (λ (z : At). may_begin_text_at z m ≡ true) e b

-- the chain of a place in the element, which is that of the script alone
abbrev pub script_element_chain : Spot → Chain
script_element_chain p = only (script_sanitizer (script_place p))

-- A value that is left out stands in a comment, and any other is such a hole.
abbrev pub IsScriptHoleUnless : Bool → ScriptState → List ℕ → Type 0
IsScriptHoleUnless true s bytes = IsComment s.at × (bytes ≡ [])
IsScriptHoleUnless false s bytes = (IsComment s.at → ⊥) × IsScriptElementHole s bytes

abbrev IsElementHoleAt : Spot → ScriptState → List ℕ → Type 0
IsElementHoleAt p s bytes = IsScriptHoleUnless (leaves_out (script_element_chain p)) s bytes

pub code-script-element : (p : Spot) (s : ScriptState) (datum : Data) (bytes : List ℕ) → IsSettled s → (at : Takes (CodeSpot sense.Re NoTail) s.at)
    → IsBackInElement (IsBackInScriptCode datum) bytes → IsScriptElementHole s bytes
code-script-element p s datum bytes i h k = record {
  plain = at-all (CodeSpot sense.Re NoTail) s bytes i h k.there.plain;
  apart = k.apart;
  begins = λ m. code-begins-apart datum bytes k.there;
}

string-comment : (q : Bool) (a : At) → a ≡ InString q NoEscape → IsComment a → ⊥
string-comment q a e c = subst IsComment e c

string-script-element : (q : Bool) (s : ScriptState) (text bytes : List ℕ) → IsSettled s → may_begin_text_at s.at s.trail.markup ≡ true
    → s.at ≡ InString q NoEscape
    → IsBackInElement (IsBackInScriptString text) bytes → IsScriptElementHole s bytes
string-script-element q s text bytes i b h k = record {
  plain = at-all (StringSpot q) s bytes i h (string-where q bytes (k.there.plain q));
  apart = k.apart;
  begins = λ m. not-behind-less s.trail.markup (none-kept s.at (InString q NoEscape) s.trail.markup h b) m;
}

regexp-script-element : (s : ScriptState) (text bytes : List ℕ) → IsSettled s → may_begin_text_at s.at s.trail.markup ≡ true → s.at ≡ InRegexp false NoEscape
    → IsBackInElement (IsBackInScriptRegexp text) bytes → IsScriptElementHole s bytes
regexp-script-element s text bytes i b h k = record {
  plain = at-all (RegexpSpot false) s bytes i h (regexp-where bytes k.there.plain);
  apart = k.apart;
  begins = λ m. not-behind-less s.trail.markup (none-kept s.at (InRegexp false NoEscape) s.trail.markup h b) m;
}

slash-script-element : (s : ScriptState) (text bytes : List ℕ) → IsSettled s → may_begin_text_at s.at s.trail.markup ≡ true → s.at ≡ Slash sense.Re
    → IsBackInElement (IsBackInScriptRegexp text) bytes → IsScriptElementHole s bytes
slash-script-element s text bytes i b h k = record {
  plain = at-all (RegexpSpot true) s bytes i h (slash-where bytes k.there.first);
  apart = k.apart;
  begins = λ m. not-behind-less s.trail.markup (none-kept s.at (Slash sense.Re) s.trail.markup h b) m;
}

script-spot-element : (p : Spot) (s : ScriptState) → IsSettled s → may_begin_text_at s.at s.trail.markup ≡ true → Takes p s.at
    → (datum : Data) (bytes : List ℕ) → IsBackBy (script_element_chain p) datum bytes → IsElementHoleAt p s bytes
script-spot-element (CodeSpot r x) s i b h datum bytes k = (no-code-comment s.at h, code-script-element (CodeSpot r x) s datum bytes i h k)
script-spot-element (StringSpot true) s i b h datum bytes k = (string-comment true s.at h, string-script-element true s (printed datum) bytes i b h k)
script-spot-element (StringSpot false) s i b h datum bytes k = (string-comment false s.at h, string-script-element false s (printed datum) bytes i b h k)
script-spot-element (RegexpSpot true) s i b h datum bytes k = (λ c. subst IsComment h c, slash-script-element s (printed datum) bytes i b h k)
script-spot-element (RegexpSpot false) s i b h datum bytes k = (λ c. subst IsComment h c, regexp-script-element s (printed datum) bytes i b h k)
script-spot-element (LineSpot r) s i b h datum bytes k = (h, k)
script-spot-element (BlockSpot r star) s i b h datum bytes k = (h, k)

pub script-element-hole : (s : ScriptState) (p : Spot) → script_may_begin_text s ≡ true → script_spot s ≡ Some p → (datum : Data) (bytes : List ℕ)
    → IsBackBy (script_element_chain p) datum bytes → IsElementHoleAt p s bytes
script-element-hole s p b e datum bytes k = (let own = script-takes s p b e in script-spot-element p s own.0 own.1 own.2 datum bytes k)
