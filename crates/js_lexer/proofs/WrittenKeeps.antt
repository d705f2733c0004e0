-- What is written of a template's text in a script element reads as the text does.
use Rattle.std.proofs.Common.{◌≡◌, ℕ, Bool, true, false, codes, List, [], ◌∷◌, ◌++◌, refl, sym, ap, ◌∙◌, true≢false}
use Rattle.js_lexer.specs.Alike.{IsSame}
use Rattle.js_lexer.specs.Classes.{class_of}
use Rattle.js_lexer.specs.Emits.{tells}
use Rattle.js_lexer.specs.Events.{ScriptEvent}
use Rattle.js_lexer.specs.Feeding.{points, tells_all, tells_white_apart, read_at, held_at, feed_script, script_emits, ScriptReading, script_reading, read_on, point_of}
use Rattle.js_lexer.specs.Holes.{paged, as_page}
use Rattle.js_lexer.specs.States.{NoEscape, AfterBackslash, AfterX, AfterX3, AfterCarriageReturn, At, Code, Word, Number, Pluses, Minuses, Slash, LineComment, BlockComment, InString, InRegexp, InTemplate, TooDeep, ScriptPoint, point, Trail, ScriptState}
use Rattle.js_lexer.specs.Steps.{script_next}
use Rattle.js_lexer.specs.WhiteSpace.{ClassedByte, classed, classed_as, released, held_after}
use Rattle.js_lexer.specs.Written.{is_text, is_taken_at, is_slash, with_escape}
use Rattle.js_lexer.specs.WrittenLaws.{WrittenReadsAs, IsOpenText, IsBeforeSlash, IsBehindBlank, blank, line_end}
use Rattle.js_lexer.specs.declared.class.ScriptClass.{ScriptClass}
use Rattle.js_lexer.specs.declared.class.ScriptClass.TheVariants as class
use Rattle.js_lexer.specs.declared.sense.Sense.{Sense}
use Rattle.js_lexer.specs.declared.sense.Sense.TheVariants as sense
use Rattle.js_lexer.proofs.Keeps.{point_after, told_after, point_after-paged, told_after-paged, same-feeds, same-told}
use Rattle.js_lexer.proofs.Paged.{as_page_point}

-- Bytes that both read.
byte-read : (b : ℕ) (r p : ScriptReading) → WrittenReadsAs r p → WrittenReadsAs (read_on (b ∷ []) r) (read_on (b ∷ []) p)
byte-read b r p h = record {
  same = same-feeds r.state p.state (class_of b) b h.same;
  told = ap (script_emits p.state b) h.told ∙ same-told r.state.literals p.state.literals r.state.held p.state.held r.state.at p.state.at (class_of b) b r.told h.same.literals h.same.held h.same.at;
}

pub bytes-read : (bs : List ℕ) (r p : ScriptReading) → WrittenReadsAs r p → WrittenReadsAs (read_on bs r) (read_on bs p)
bytes-read [] r p h = h
bytes-read (b ∷ bs) r p h = bytes-read bs (read_on (b ∷ []) r) (read_on (b ∷ []) p) (byte-read b r p h)

pub same-then : (u v w : ScriptState) → IsSame u v → IsSame v w → IsSame u w
same-then u v w s r = record { literals = r.literals ∙ s.literals; held = r.held ∙ s.held; at = r.at ∙ s.at }

reads-then : (r p q : ScriptReading) → WrittenReadsAs r p → WrittenReadsAs p q → WrittenReadsAs r q
reads-then r p q h g = record { same = same-then r.state p.state q.state h.same g.same; told = g.told ∙ h.told }

-- In the text of a token `\x3C` reads as `<` does, and as `\<`.
abbrev text_reading : List ℕ → At → List ℕ → Trail → List ScriptEvent → ScriptReading
text_reading fs a held trail t = script_reading (record { literals = fs; at = a; held = held; trail = trail }) t

less-than : (fs : List ℕ) (a : At) (held : List ℕ) (trail : Trail) (t : List ScriptEvent) → is_text a ≡ true → is_taken_at a ≡ false
    → WrittenReadsAs (read_on (60 ∷ []) (text_reading fs a held trail t)) (read_on (codes "\\x3C") (text_reading fs a held trail t))
unfolding class_of
less-than [] (InString true NoEscape) held trail t i o = record { same = record { literals = refl; held = refl; at = refl }; told = refl }
less-than (n ∷ fs) (InString true NoEscape) held trail t i o = record { same = record { literals = refl; held = refl; at = refl }; told = refl }
less-than [] (InString true AfterX) held trail t i o = record { same = record { literals = refl; held = refl; at = refl }; told = refl }
less-than (n ∷ fs) (InString true AfterX) held trail t i o = record { same = record { literals = refl; held = refl; at = refl }; told = refl }
less-than [] (InString true AfterX3) held trail t i o = record { same = record { literals = refl; held = refl; at = refl }; told = refl }
less-than (n ∷ fs) (InString true AfterX3) held trail t i o = record { same = record { literals = refl; held = refl; at = refl }; told = refl }
less-than [] (InString true AfterCarriageReturn) held trail t i o = record { same = record { literals = refl; held = refl; at = refl }; told = refl }
less-than (n ∷ fs) (InString true AfterCarriageReturn) held trail t i o = record { same = record { literals = refl; held = refl; at = refl }; told = refl }
less-than [] (InString false NoEscape) held trail t i o = record { same = record { literals = refl; held = refl; at = refl }; told = refl }
less-than (n ∷ fs) (InString false NoEscape) held trail t i o = record { same = record { literals = refl; held = refl; at = refl }; told = refl }
less-than [] (InString false AfterX) held trail t i o = record { same = record { literals = refl; held = refl; at = refl }; told = refl }
less-than (n ∷ fs) (InString false AfterX) held trail t i o = record { same = record { literals = refl; held = refl; at = refl }; told = refl }
less-than [] (InString false AfterX3) held trail t i o = record { same = record { literals = refl; held = refl; at = refl }; told = refl }
less-than (n ∷ fs) (InString false AfterX3) held trail t i o = record { same = record { literals = refl; held = refl; at = refl }; told = refl }
less-than [] (InString false AfterCarriageReturn) held trail t i o = record { same = record { literals = refl; held = refl; at = refl }; told = refl }
less-than (n ∷ fs) (InString false AfterCarriageReturn) held trail t i o = record { same = record { literals = refl; held = refl; at = refl }; told = refl }
less-than [] (InRegexp true NoEscape) held trail t i o = record { same = record { literals = refl; held = refl; at = refl }; told = refl }
less-than (n ∷ fs) (InRegexp true NoEscape) held trail t i o = record { same = record { literals = refl; held = refl; at = refl }; told = refl }
less-than [] (InRegexp true AfterX) held trail t i o = record { same = record { literals = refl; held = refl; at = refl }; told = refl }
less-than (n ∷ fs) (InRegexp true AfterX) held trail t i o = record { same = record { literals = refl; held = refl; at = refl }; told = refl }
less-than [] (InRegexp true AfterX3) held trail t i o = record { same = record { literals = refl; held = refl; at = refl }; told = refl }
less-than (n ∷ fs) (InRegexp true AfterX3) held trail t i o = record { same = record { literals = refl; held = refl; at = refl }; told = refl }
less-than [] (InRegexp true AfterCarriageReturn) held trail t i o = record { same = record { literals = refl; held = refl; at = refl }; told = refl }
less-than (n ∷ fs) (InRegexp true AfterCarriageReturn) held trail t i o = record { same = record { literals = refl; held = refl; at = refl }; told = refl }
less-than [] (InRegexp false NoEscape) held trail t i o = record { same = record { literals = refl; held = refl; at = refl }; told = refl }
less-than (n ∷ fs) (InRegexp false NoEscape) held trail t i o = record { same = record { literals = refl; held = refl; at = refl }; told = refl }
less-than [] (InRegexp false AfterX) held trail t i o = record { same = record { literals = refl; held = refl; at = refl }; told = refl }
less-than (n ∷ fs) (InRegexp false AfterX) held trail t i o = record { same = record { literals = refl; held = refl; at = refl }; told = refl }
less-than [] (InRegexp false AfterX3) held trail t i o = record { same = record { literals = refl; held = refl; at = refl }; told = refl }
less-than (n ∷ fs) (InRegexp false AfterX3) held trail t i o = record { same = record { literals = refl; held = refl; at = refl }; told = refl }
less-than [] (InRegexp false AfterCarriageReturn) held trail t i o = record { same = record { literals = refl; held = refl; at = refl }; told = refl }
less-than (n ∷ fs) (InRegexp false AfterCarriageReturn) held trail t i o = record { same = record { literals = refl; held = refl; at = refl }; told = refl }
less-than [] (InTemplate NoEscape true) held trail t i o = record { same = record { literals = refl; held = refl; at = refl }; told = refl }
less-than (n ∷ fs) (InTemplate NoEscape true) held trail t i o = record { same = record { literals = refl; held = refl; at = refl }; told = refl }
less-than [] (InTemplate NoEscape false) held trail t i o = record { same = record { literals = refl; held = refl; at = refl }; told = refl }
less-than (n ∷ fs) (InTemplate NoEscape false) held trail t i o = record { same = record { literals = refl; held = refl; at = refl }; told = refl }
less-than [] (InTemplate AfterX true) held trail t i o = record { same = record { literals = refl; held = refl; at = refl }; told = refl }
less-than (n ∷ fs) (InTemplate AfterX true) held trail t i o = record { same = record { literals = refl; held = refl; at = refl }; told = refl }
less-than [] (InTemplate AfterX false) held trail t i o = record { same = record { literals = refl; held = refl; at = refl }; told = refl }
less-than (n ∷ fs) (InTemplate AfterX false) held trail t i o = record { same = record { literals = refl; held = refl; at = refl }; told = refl }
less-than [] (InTemplate AfterX3 true) held trail t i o = record { same = record { literals = refl; held = refl; at = refl }; told = refl }
less-than (n ∷ fs) (InTemplate AfterX3 true) held trail t i o = record { same = record { literals = refl; held = refl; at = refl }; told = refl }
less-than [] (InTemplate AfterX3 false) held trail t i o = record { same = record { literals = refl; held = refl; at = refl }; told = refl }
less-than (n ∷ fs) (InTemplate AfterX3 false) held trail t i o = record { same = record { literals = refl; held = refl; at = refl }; told = refl }
less-than [] (InTemplate AfterCarriageReturn true) held trail t i o = record { same = record { literals = refl; held = refl; at = refl }; told = refl }
less-than (n ∷ fs) (InTemplate AfterCarriageReturn true) held trail t i o = record { same = record { literals = refl; held = refl; at = refl }; told = refl }
less-than [] (InTemplate AfterCarriageReturn false) held trail t i o = record { same = record { literals = refl; held = refl; at = refl }; told = refl }
less-than (n ∷ fs) (InTemplate AfterCarriageReturn false) held trail t i o = record { same = record { literals = refl; held = refl; at = refl }; told = refl }
less-than [] (Slash sense.Re) held trail t i o = record { same = record { literals = refl; held = refl; at = refl }; told = refl }
less-than (n ∷ fs) (Slash sense.Re) held trail t i o = record { same = record { literals = refl; held = refl; at = refl }; told = refl }
less-than fs (InString true AfterBackslash) held trail t i o = absurd (true≢false o)
less-than fs (InString false AfterBackslash) held trail t i o = absurd (true≢false o)
less-than fs (InRegexp true AfterBackslash) held trail t i o = absurd (true≢false o)
less-than fs (InRegexp false AfterBackslash) held trail t i o = absurd (true≢false o)
less-than fs (InTemplate AfterBackslash true) held trail t i o = absurd (true≢false o)
less-than fs (InTemplate AfterBackslash false) held trail t i o = absurd (true≢false o)
less-than fs (Code s) held trail t i o = absurd (true≢false (sym i))
less-than fs (Word w) held trail t i o = absurd (true≢false (sym i))
less-than fs Number held trail t i o = absurd (true≢false (sym i))
less-than fs (Pluses odd) held trail t i o = absurd (true≢false (sym i))
less-than fs (Minuses odd) held trail t i o = absurd (true≢false (sym i))
less-than fs (Slash sense.Div) held trail t i o = absurd (true≢false (sym i))
less-than fs (Slash sense.Brace) held trail t i o = absurd (true≢false (sym i))
less-than fs (LineComment s) held trail t i o = absurd (true≢false (sym i))
less-than fs (BlockComment s star) held trail t i o = absurd (true≢false (sym i))
less-than fs TooDeep held trail t i o = absurd (true≢false (sym i))

taken-less-than : (fs : List ℕ) (a : At) (held : List ℕ) (trail : Trail) (t : List ScriptEvent) → is_text a ≡ true → is_taken_at a ≡ false
    → WrittenReadsAs (read_on (92 ∷ 60 ∷ []) (text_reading fs a held trail t)) (read_on (codes "\\x3C") (text_reading fs a held trail t))
unfolding class_of
taken-less-than [] (InString true NoEscape) held trail t i o = record { same = record { literals = refl; held = refl; at = refl }; told = refl }
taken-less-than (n ∷ fs) (InString true NoEscape) held trail t i o = record { same = record { literals = refl; held = refl; at = refl }; told = refl }
taken-less-than [] (InString true AfterX) held trail t i o = record { same = record { literals = refl; held = refl; at = refl }; told = refl }
taken-less-than (n ∷ fs) (InString true AfterX) held trail t i o = record { same = record { literals = refl; held = refl; at = refl }; told = refl }
taken-less-than [] (InString true AfterX3) held trail t i o = record { same = record { literals = refl; held = refl; at = refl }; told = refl }
taken-less-than (n ∷ fs) (InString true AfterX3) held trail t i o = record { same = record { literals = refl; held = refl; at = refl }; told = refl }
taken-less-than [] (InString true AfterCarriageReturn) held trail t i o = record { same = record { literals = refl; held = refl; at = refl }; told = refl }
taken-less-than (n ∷ fs) (InString true AfterCarriageReturn) held trail t i o = record { same = record { literals = refl; held = refl; at = refl }; told = refl }
taken-less-than [] (InString false NoEscape) held trail t i o = record { same = record { literals = refl; held = refl; at = refl }; told = refl }
taken-less-than (n ∷ fs) (InString false NoEscape) held trail t i o = record { same = record { literals = refl; held = refl; at = refl }; told = refl }
taken-less-than [] (InString false AfterX) held trail t i o = record { same = record { literals = refl; held = refl; at = refl }; told = refl }
taken-less-than (n ∷ fs) (InString false AfterX) held trail t i o = record { same = record { literals = refl; held = refl; at = refl }; told = refl }
taken-less-than [] (InString false AfterX3) held trail t i o = record { same = record { literals = refl; held = refl; at = refl }; told = refl }
taken-less-than (n ∷ fs) (InString false AfterX3) held trail t i o = record { same = record { literals = refl; held = refl; at = refl }; told = refl }
taken-less-than [] (InString false AfterCarriageReturn) held trail t i o = record { same = record { literals = refl; held = refl; at = refl }; told = refl }
taken-less-than (n ∷ fs) (InString false AfterCarriageReturn) held trail t i o = record { same = record { literals = refl; held = refl; at = refl }; told = refl }
taken-less-than [] (InRegexp true NoEscape) held trail t i o = record { same = record { literals = refl; held = refl; at = refl }; told = refl }
taken-less-than (n ∷ fs) (InRegexp true NoEscape) held trail t i o = record { same = record { literals = refl; held = refl; at = refl }; told = refl }
taken-less-than [] (InRegexp true AfterX) held trail t i o = record { same = record { literals = refl; held = refl; at = refl }; told = refl }
taken-less-than (n ∷ fs) (InRegexp true AfterX) held trail t i o = record { same = record { literals = refl; held = refl; at = refl }; told = refl }
taken-less-than [] (InRegexp true AfterX3) held trail t i o = record { same = record { literals = refl; held = refl; at = refl }; told = refl }
taken-less-than (n ∷ fs) (InRegexp true AfterX3) held trail t i o = record { same = record { literals = refl; held = refl; at = refl }; told = refl }
taken-less-than [] (InRegexp true AfterCarriageReturn) held trail t i o = record { same = record { literals = refl; held = refl; at = refl }; told = refl }
taken-less-than (n ∷ fs) (InRegexp true AfterCarriageReturn) held trail t i o = record { same = record { literals = refl; held = refl; at = refl }; told = refl }
taken-less-than [] (InRegexp false NoEscape) held trail t i o = record { same = record { literals = refl; held = refl; at = refl }; told = refl }
taken-less-than (n ∷ fs) (InRegexp false NoEscape) held trail t i o = record { same = record { literals = refl; held = refl; at = refl }; told = refl }
taken-less-than [] (InRegexp false AfterX) held trail t i o = record { same = record { literals = refl; held = refl; at = refl }; told = refl }
taken-less-than (n ∷ fs) (InRegexp false AfterX) held trail t i o = record { same = record { literals = refl; held = refl; at = refl }; told = refl }
taken-less-than [] (InRegexp false AfterX3) held trail t i o = record { same = record { literals = refl; held = refl; at = refl }; told = refl }
taken-less-than (n ∷ fs) (InRegexp false AfterX3) held trail t i o = record { same = record { literals = refl; held = refl; at = refl }; told = refl }
taken-less-than [] (InRegexp false AfterCarriageReturn) held trail t i o = record { same = record { literals = refl; held = refl; at = refl }; told = refl }
taken-less-than (n ∷ fs) (InRegexp false AfterCarriageReturn) held trail t i o = record { same = record { literals = refl; held = refl; at = refl }; told = refl }
taken-less-than [] (InTemplate NoEscape true) held trail t i o = record { same = record { literals = refl; held = refl; at = refl }; told = refl }
taken-less-than (n ∷ fs) (InTemplate NoEscape true) held trail t i o = record { same = record { literals = refl; held = refl; at = refl }; told = refl }
taken-less-than [] (InTemplate NoEscape false) held trail t i o = record { same = record { literals = refl; held = refl; at = refl }; told = refl }
taken-less-than (n ∷ fs) (InTemplate NoEscape false) held trail t i o = record { same = record { literals = refl; held = refl; at = refl }; told = refl }
taken-less-than [] (InTemplate AfterX true) held trail t i o = record { same = record { literals = refl; held = refl; at = refl }; told = refl }
taken-less-than (n ∷ fs) (InTemplate AfterX true) held trail t i o = record { same = record { literals = refl; held = refl; at = refl }; told = refl }
taken-less-than [] (InTemplate AfterX false) held trail t i o = record { same = record { literals = refl; held = refl; at = refl }; told = refl }
taken-less-than (n ∷ fs) (InTemplate AfterX false) held trail t i o = record { same = record { literals = refl; held = refl; at = refl }; told = refl }
taken-less-than [] (InTemplate AfterX3 true) held trail t i o = record { same = record { literals = refl; held = refl; at = refl }; told = refl }
taken-less-than (n ∷ fs) (InTemplate AfterX3 true) held trail t i o = record { same = record { literals = refl; held = refl; at = refl }; told = refl }
taken-less-than [] (InTemplate AfterX3 false) held trail t i o = record { same = record { literals = refl; held = refl; at = refl }; told = refl }
taken-less-than (n ∷ fs) (InTemplate AfterX3 false) held trail t i o = record { same = record { literals = refl; held = refl; at = refl }; told = refl }
taken-less-than [] (InTemplate AfterCarriageReturn true) held trail t i o = record { same = record { literals = refl; held = refl; at = refl }; told = refl }
taken-less-than (n ∷ fs) (InTemplate AfterCarriageReturn true) held trail t i o = record { same = record { literals = refl; held = refl; at = refl }; told = refl }
taken-less-than [] (InTemplate AfterCarriageReturn false) held trail t i o = record { same = record { literals = refl; held = refl; at = refl }; told = refl }
taken-less-than (n ∷ fs) (InTemplate AfterCarriageReturn false) held trail t i o = record { same = record { literals = refl; held = refl; at = refl }; told = refl }
taken-less-than [] (Slash sense.Re) held trail t i o = record { same = record { literals = refl; held = refl; at = refl }; told = refl }
taken-less-than (n ∷ fs) (Slash sense.Re) held trail t i o = record { same = record { literals = refl; held = refl; at = refl }; told = refl }
taken-less-than fs (InString true AfterBackslash) held trail t i o = absurd (true≢false o)
taken-less-than fs (InString false AfterBackslash) held trail t i o = absurd (true≢false o)
taken-less-than fs (InRegexp true AfterBackslash) held trail t i o = absurd (true≢false o)
taken-less-than fs (InRegexp false AfterBackslash) held trail t i o = absurd (true≢false o)
taken-less-than fs (InTemplate AfterBackslash true) held trail t i o = absurd (true≢false o)
taken-less-than fs (InTemplate AfterBackslash false) held trail t i o = absurd (true≢false o)
taken-less-than fs (Code s) held trail t i o = absurd (true≢false (sym i))
taken-less-than fs (Word w) held trail t i o = absurd (true≢false (sym i))
taken-less-than fs Number held trail t i o = absurd (true≢false (sym i))
taken-less-than fs (Pluses odd) held trail t i o = absurd (true≢false (sym i))
taken-less-than fs (Minuses odd) held trail t i o = absurd (true≢false (sym i))
taken-less-than fs (Slash sense.Div) held trail t i o = absurd (true≢false (sym i))
taken-less-than fs (Slash sense.Brace) held trail t i o = absurd (true≢false (sym i))
taken-less-than fs (LineComment s) held trail t i o = absurd (true≢false (sym i))
taken-less-than fs (BlockComment s star) held trail t i o = absurd (true≢false (sym i))
taken-less-than fs TooDeep held trail t i o = absurd (true≢false (sym i))

pub word-reads : (bs : List ℕ) (r p : ScriptReading) → WrittenReadsAs r p → IsOpenText r.state → WrittenReadsAs (read_on (60 ∷ bs) r) (read_on (with_escape (60 ∷ bs)) p)
word-reads bs r p h o = bytes-read bs (read_on (60 ∷ []) r) (read_on (codes "\\x3C") p)
    (reads-then (read_on (60 ∷ []) r) (read_on (codes "\\x3C") r) (read_on (codes "\\x3C") p)
    (less-than r.state.literals r.state.at r.state.held r.state.trail r.told o.text o.free)
    (bytes-read (codes "\\x3C") r p h))

pub escaped-reads : (bs : List ℕ) (r p : ScriptReading) → WrittenReadsAs r p → IsOpenText r.state → WrittenReadsAs (read_on (92 ∷ 60 ∷ bs) r) (read_on (with_escape (60 ∷ bs)) p)
escaped-reads bs r p h o = bytes-read bs (read_on (92 ∷ 60 ∷ []) r) (read_on (codes "\\x3C") p)
    (reads-then (read_on (92 ∷ 60 ∷ []) r) (read_on (codes "\\x3C") r) (read_on (codes "\\x3C") p)
    (taken-less-than r.state.literals r.state.at r.state.held r.state.trail r.told o.text o.free)
    (bytes-read (codes "\\x3C") r p h))

-- A slash that may begin a comment, or a blank in its place.
abbrev pub blank_class : Bool → ScriptClass
blank_class false = class.Space
blank_class true = class.LineEnd

abbrev slash_sense : At → Sense
slash_sense (Slash s) = s
slash_sense a = sense.Re

no-more : (n : ℕ) (fs : List ℕ) → n ∷ fs ≡ [] → ⊥
no-more n fs e = cc

pub record BlankFor (s : Sense) (fs : List ℕ) (a : At) (k : Bool) (b : ℕ) (t : List ScriptEvent) : Type 0 where
  pub leads : script_next fs a (blank_class k) b ≡ point [] (Code s)
  pub tells : tells fs a (blank_class k) b t ≡ tells fs a class.Solidus 47 t

pub slash-blank : (fs : List ℕ) (a : At) (s : Sense) (k : Bool) (b : ℕ) (t : List ScriptEvent) → script_next fs a class.Solidus 47 ≡ point [] (Slash s) → BlankFor s fs a k b t
slash-blank [] (Code r) s false b t e = record { leads = ap (λ (p : ScriptPoint). point [] (Code (slash_sense p.at))) e; tells = refl }
slash-blank [] (Code r) s true b t e = record { leads = ap (λ (p : ScriptPoint). point [] (Code (slash_sense p.at))) e; tells = refl }
slash-blank (n ∷ fs) (Code r) s k b t e = absurd (no-more n fs (ap (λ (p : ScriptPoint). p.literals) e))
slash-blank [] (Word w) s false b t e = record { leads = ap (λ (p : ScriptPoint). point [] (Code (slash_sense p.at))) e; tells = refl }
slash-blank [] (Word w) s true b t e = record { leads = ap (λ (p : ScriptPoint). point [] (Code (slash_sense p.at))) e; tells = refl }
slash-blank (n ∷ fs) (Word w) s k b t e = absurd (no-more n fs (ap (λ (p : ScriptPoint). p.literals) e))
slash-blank [] Number s false b t e = record { leads = ap (λ (p : ScriptPoint). point [] (Code (slash_sense p.at))) e; tells = refl }
slash-blank [] Number s true b t e = record { leads = ap (λ (p : ScriptPoint). point [] (Code (slash_sense p.at))) e; tells = refl }
slash-blank (n ∷ fs) Number s k b t e = absurd (no-more n fs (ap (λ (p : ScriptPoint). p.literals) e))
slash-blank [] (Pluses odd) s false b t e = record { leads = ap (λ (p : ScriptPoint). point [] (Code (slash_sense p.at))) e; tells = refl }
slash-blank [] (Pluses odd) s true b t e = record { leads = ap (λ (p : ScriptPoint). point [] (Code (slash_sense p.at))) e; tells = refl }
slash-blank (n ∷ fs) (Pluses odd) s k b t e = absurd (no-more n fs (ap (λ (p : ScriptPoint). p.literals) e))
slash-blank [] (Minuses odd) s false b t e = record { leads = ap (λ (p : ScriptPoint). point [] (Code (slash_sense p.at))) e; tells = refl }
slash-blank [] (Minuses odd) s true b t e = record { leads = ap (λ (p : ScriptPoint). point [] (Code (slash_sense p.at))) e; tells = refl }
slash-blank (n ∷ fs) (Minuses odd) s k b t e = absurd (no-more n fs (ap (λ (p : ScriptPoint). p.literals) e))
slash-blank fs (Slash r) s k b t e = absurd (true≢false (sym (ap (λ (p : ScriptPoint). is_slash p.at) e)))
slash-blank fs (LineComment r) s k b t e = absurd (true≢false (sym (ap (λ (p : ScriptPoint). is_slash p.at) e)))
slash-blank fs (BlockComment r true) s k b t e = absurd (true≢false (sym (ap (λ (p : ScriptPoint). is_slash p.at) e)))
slash-blank fs (BlockComment r false) s k b t e = absurd (true≢false (sym (ap (λ (p : ScriptPoint). is_slash p.at) e)))
slash-blank fs TooDeep s k b t e = absurd (true≢false (sym (ap (λ (p : ScriptPoint). is_slash p.at) e)))
slash-blank fs (InString true NoEscape) s k b t e = absurd (true≢false (sym (ap (λ (p : ScriptPoint). is_slash p.at) e)))
slash-blank fs (InString true AfterBackslash) s k b t e = absurd (true≢false (sym (ap (λ (p : ScriptPoint). is_slash p.at) e)))
slash-blank fs (InString true AfterX) s k b t e = absurd (true≢false (sym (ap (λ (p : ScriptPoint). is_slash p.at) e)))
slash-blank fs (InString true AfterX3) s k b t e = absurd (true≢false (sym (ap (λ (p : ScriptPoint). is_slash p.at) e)))
slash-blank fs (InString true AfterCarriageReturn) s k b t e = absurd (true≢false (sym (ap (λ (p : ScriptPoint). is_slash p.at) e)))
slash-blank fs (InString false NoEscape) s k b t e = absurd (true≢false (sym (ap (λ (p : ScriptPoint). is_slash p.at) e)))
slash-blank fs (InString false AfterBackslash) s k b t e = absurd (true≢false (sym (ap (λ (p : ScriptPoint). is_slash p.at) e)))
slash-blank fs (InString false AfterX) s k b t e = absurd (true≢false (sym (ap (λ (p : ScriptPoint). is_slash p.at) e)))
slash-blank fs (InString false AfterX3) s k b t e = absurd (true≢false (sym (ap (λ (p : ScriptPoint). is_slash p.at) e)))
slash-blank fs (InString false AfterCarriageReturn) s k b t e = absurd (true≢false (sym (ap (λ (p : ScriptPoint). is_slash p.at) e)))
slash-blank fs (InRegexp true NoEscape) s k b t e = absurd (true≢false (sym (ap (λ (p : ScriptPoint). is_slash p.at) e)))
slash-blank fs (InRegexp true AfterBackslash) s k b t e = absurd (true≢false (sym (ap (λ (p : ScriptPoint). is_slash p.at) e)))
slash-blank fs (InRegexp true AfterX) s k b t e = absurd (true≢false (sym (ap (λ (p : ScriptPoint). is_slash p.at) e)))
slash-blank fs (InRegexp true AfterX3) s k b t e = absurd (true≢false (sym (ap (λ (p : ScriptPoint). is_slash p.at) e)))
slash-blank fs (InRegexp true AfterCarriageReturn) s k b t e = absurd (true≢false (sym (ap (λ (p : ScriptPoint). is_slash p.at) e)))
slash-blank fs (InRegexp false NoEscape) s k b t e = absurd (true≢false (sym (ap (λ (p : ScriptPoint). is_slash p.at) e)))
slash-blank fs (InRegexp false AfterBackslash) s k b t e = absurd (true≢false (sym (ap (λ (p : ScriptPoint). is_slash p.at) e)))
slash-blank fs (InRegexp false AfterX) s k b t e = absurd (true≢false (sym (ap (λ (p : ScriptPoint). is_slash p.at) e)))
slash-blank fs (InRegexp false AfterX3) s k b t e = absurd (true≢false (sym (ap (λ (p : ScriptPoint). is_slash p.at) e)))
slash-blank fs (InRegexp false AfterCarriageReturn) s k b t e = absurd (true≢false (sym (ap (λ (p : ScriptPoint). is_slash p.at) e)))
slash-blank fs (InTemplate NoEscape true) s k b t e = absurd (true≢false (sym (ap (λ (p : ScriptPoint). is_slash p.at) e)))
slash-blank fs (InTemplate NoEscape false) s k b t e = absurd (true≢false (sym (ap (λ (p : ScriptPoint). is_slash p.at) e)))
slash-blank fs (InTemplate AfterBackslash true) s k b t e = absurd (true≢false (sym (ap (λ (p : ScriptPoint). is_slash p.at) e)))
slash-blank fs (InTemplate AfterBackslash false) s k b t e = absurd (true≢false (sym (ap (λ (p : ScriptPoint). is_slash p.at) e)))
slash-blank fs (InTemplate AfterX true) s k b t e = absurd (true≢false (sym (ap (λ (p : ScriptPoint). is_slash p.at) e)))
slash-blank fs (InTemplate AfterX false) s k b t e = absurd (true≢false (sym (ap (λ (p : ScriptPoint). is_slash p.at) e)))
slash-blank fs (InTemplate AfterX3 true) s k b t e = absurd (true≢false (sym (ap (λ (p : ScriptPoint). is_slash p.at) e)))
slash-blank fs (InTemplate AfterX3 false) s k b t e = absurd (true≢false (sym (ap (λ (p : ScriptPoint). is_slash p.at) e)))
slash-blank fs (InTemplate AfterCarriageReturn true) s k b t e = absurd (true≢false (sym (ap (λ (p : ScriptPoint). is_slash p.at) e)))
slash-blank fs (InTemplate AfterCarriageReturn false) s k b t e = absurd (true≢false (sym (ap (λ (p : ScriptPoint). is_slash p.at) e)))

-- with what is held back before it
abbrev pub with_held : Bool → List ℕ → ScriptClass → ℕ → List ClassedByte
with_held true held c b = classed_as class.Letter held ++ classed c b ∷ []
with_held false held c b = classed c b ∷ []

points-end : (xs : List ClassedByte) (y : ClassedByte) (p : ScriptPoint) → points (xs ++ y ∷ []) p ≡ script_next (points xs p).literals (points xs p).at y.class y.byte
points-end [] y p = refl
points-end (x ∷ xs) y p = points-end xs y (script_next p.literals p.at x.class x.byte)

pub tells-end : (xs : List ClassedByte) (y : ClassedByte) (p : ScriptPoint) (t : List ScriptEvent) → tells_all (xs ++ y ∷ []) p t ≡ tells (points xs p).literals (points xs p).at y.class y.byte (tells_all xs p t)
tells-end [] y p t = refl
tells-end (x ∷ xs) y p t = tells-end xs y (script_next p.literals p.at x.class x.byte) (tells p.literals p.at x.class x.byte t)

held-leads : (x : Bool) (held : List ℕ) (p : ScriptPoint) (s : Sense) (k : Bool) (b : ℕ) → points (with_held x held class.Solidus 47) p ≡ point [] (Slash s) → points (with_held x held (blank_class k) b) p ≡ point [] (Code s)
held-leads true held p s k b e =
    let xs = classed_as class.Letter held in
    points-end xs (classed (blank_class k) b) p
    ∙ (slash-blank (points xs p).literals (points xs p).at s k b [] (sym (points-end xs (classed class.Solidus 47) p) ∙ e)).leads
held-leads false held p s k b e = (slash-blank p.literals p.at s k b [] e).leads

held-tells : (x : Bool) (held : List ℕ) (p : ScriptPoint) (s : Sense) (k : Bool) (b : ℕ) (t : List ScriptEvent) → points (with_held x held class.Solidus 47) p ≡ point [] (Slash s)
    → tells_all (with_held x held (blank_class k) b) p t ≡ tells_all (with_held x held class.Solidus 47) p t
held-tells true held p s k b t e =
    let xs = classed_as class.Letter held in
    tells-end xs (classed (blank_class k) b) p t
    ∙ (slash-blank (points xs p).literals (points xs p).at s k b (tells_all xs p t) (sym (points-end xs (classed class.Solidus 47) p) ∙ e)).tells
    ∙ sym (tells-end xs (classed class.Solidus 47) p t)
held-tells false held p s k b t e = (slash-blank p.literals p.at s k b t e).tells

-- the bytes: a slash, a space, and the ends of lines
abbrev pub blank_byte : Bool → Bool → ℕ
blank_byte false x = 32
blank_byte true false = 13
blank_byte true true = 10

pub read-slash : (x : Bool) (held : List ℕ) → read_at x held (class_of 47) 47 ≡ with_held x held class.Solidus 47
unfolding class_of released
read-slash true held = refl
read-slash false held = refl

read-blank : (k l x : Bool) (held : List ℕ) → read_at x held (class_of (blank_byte k l)) (blank_byte k l) ≡ with_held x held (blank_class k) (blank_byte k l)
unfolding class_of released
read-blank false l true held = refl
read-blank false l false held = refl
read-blank true false true held = refl
read-blank true false false held = refl
read-blank true true true held = refl
read-blank true true false held = refl

pub none-held : (k l x : Bool) (held : List ℕ) → held_at x held (blank_byte k l) ≡ []
unfolding held_after
none-held false l true held = refl
none-held false l false held = refl
none-held true false true held = refl
none-held true false false held = refl
none-held true true true held = refl
none-held true true false held = refl

pub none-held-by-slash : (x : Bool) (held : List ℕ) → held_at x held 47 ≡ []
unfolding held_after
none-held-by-slash true held = refl
none-held-by-slash false held = refl

pub blank-leads : (k l : Bool) (s : Sense) (v : ScriptState) → IsBeforeSlash s v → point_of (feed_script v (blank_byte k l)) ≡ point [] (Code s)
blank-leads k l s v e =
    let x = tells_white_apart v.at in
    ap (λ (xs : List ClassedByte). points xs (point_of v)) (read-blank k l x v.held)
    ∙ held-leads x v.held (point_of v) s k (blank_byte k l) (sym (ap (λ (xs : List ClassedByte). points xs (point_of v)) (read-slash x v.held)) ∙ e)

pub blank-tells : (k l : Bool) (s : Sense) (v : ScriptState) (t : List ScriptEvent) → IsBeforeSlash s v → script_emits v (blank_byte k l) t ≡ script_emits v 47 t
blank-tells k l s v t e =
    let x = tells_white_apart v.at in
    ap (λ (xs : List ClassedByte). tells_all xs (point_of v) t) (read-blank k l x v.held)
    ∙ held-tells x v.held (point_of v) s k (blank_byte k l) t (sym (ap (λ (xs : List ClassedByte). points xs (point_of v)) (read-slash x v.held)) ∙ e)
    ∙ sym (ap (λ (xs : List ClassedByte). tells_all xs (point_of v) t) (read-slash x v.held))

-- A block comment.
star-leads : (s : Sense) → point_after [] [] (Slash s) (class_of 42) 42 ≡ point [] (BlockComment s false)
unfolding class_of released
star-leads sense.Re = refl
star-leads sense.Div = refl
star-leads sense.Brace = refl

star-tells : (s : Sense) (t : List ScriptEvent) → told_after [] [] (Slash s) (class_of 42) 42 t ≡ t
unfolding class_of released
star-tells sense.Re t = refl
star-tells sense.Div t = refl
star-tells sense.Brace t = refl

pub opens-comment : (fs held : List ℕ) (a : At) (s : Sense) → fs ≡ [] → held ≡ [] → a ≡ Slash s → point_after fs held a (class_of 42) 42 ≡ point [] (BlockComment s false)
opens-comment fs held a s e f g = rw (e, f, g) (star-leads s)

pub opens-told : (fs held : List ℕ) (a : At) (s : Sense) (t : List ScriptEvent) → fs ≡ [] → held ≡ [] → a ≡ Slash s → told_after fs held a (class_of 42) 42 t ≡ t
opens-told fs held a s t e f g = rw (e, f, g) (star-tells s t)

blank-begins : (k l : Bool) (s : Sense) (r p : ScriptReading) → WrittenReadsAs r p → IsBeforeSlash s r.state → IsBehindBlank s (read_on (codes "/*") r) (read_on (blank_byte k l ∷ []) p)
blank-begins k l s r p h e =
    let u = feed_script r.state 47 in
    let none = none-held-by-slash (tells_white_apart r.state.at) r.state.held in
    let fs = ap (λ (q : ScriptPoint). q.literals) e in
    let at = ap (λ (q : ScriptPoint). q.at) e in
    let g = byte-read (blank_byte k l) r p h in
    let c = blank-leads k l s r.state e in
    record {
      star = false;
      comment = opens-comment u.literals u.held u.at s fs none at;
      outside = g.same.literals ∙ ap (λ (q : ScriptPoint). q.literals) c;
      code = g.same.at ∙ ap (λ (q : ScriptPoint). as_page q.at) c;
      held = g.same.held ∙ none-held k l (tells_white_apart r.state.at) r.state.held;
      told = g.told ∙ blank-tells k l s r.state r.told e ∙ sym (opens-told u.literals u.held u.at s (script_emits r.state 47 r.told) fs none at);
    }

comment-tells : (fs held : List ℕ) (a : At) (s : Sense) (star : Bool) (c : ScriptClass) (b : ℕ) (t : List ScriptEvent) → point fs a ≡ point [] (BlockComment s star) → told_after fs held a c b t ≡ t
comment-tells fs held a s star c b t e = rw (ap (λ (q : ScriptPoint). q.literals) e, ap (λ (q : ScriptPoint). q.at) e) refl

comment-holds : (held : List ℕ) (a : At) (s : Sense) (star : Bool) (b : ℕ) → a ≡ BlockComment s star → held_at (tells_white_apart a) held b ≡ []
comment-holds held a s star b e = rw e refl

pub comment-goes : (s : Sense) (b : ℕ) (star : Bool) (r p : ScriptReading) → IsBehindBlank s r p → point_of (feed_script r.state b) ≡ point [] (BlockComment s star) → IsBehindBlank s (read_on (b ∷ []) r) p
comment-goes s b star r p h e = record {
  star = star;
  comment = e;
  outside = h.outside;
  code = h.code;
  held = h.held;
  told = h.told ∙ sym (comment-tells r.state.literals r.state.held r.state.at s h.star (class_of b) b r.told h.comment);
}

blank-stays : (k l : Bool) (s : Sense) → as_page_point (point_after [] [] (Code (paged s)) (class_of (blank_byte k l)) (blank_byte k l)) ≡ point [] (Code (paged s))
unfolding class_of released
blank-stays false l sense.Re = refl
blank-stays false l sense.Div = refl
blank-stays false l sense.Brace = refl
blank-stays true false sense.Re = refl
blank-stays true false sense.Div = refl
blank-stays true false sense.Brace = refl
blank-stays true true sense.Re = refl
blank-stays true true sense.Div = refl
blank-stays true true sense.Brace = refl

blank-silent : (k l : Bool) (s : Sense) (t : List ScriptEvent) → told_after [] [] (Code s) (class_of (blank_byte k l)) (blank_byte k l) t ≡ t
unfolding class_of released
blank-silent false l s t = refl
blank-silent true false s t = refl
blank-silent true true s t = refl

again-leads : (k l : Bool) (fs held : List ℕ) (a : At) (s : Sense) → fs ≡ [] → held ≡ [] → as_page a ≡ Code (paged s) → as_page_point (point_after fs held a (class_of (blank_byte k l)) (blank_byte k l)) ≡ point [] (Code (paged s))
again-leads k l fs held a s e f g = point_after-paged fs held a (class_of (blank_byte k l)) (blank_byte k l) ∙ rw (e, f, g) (blank-stays k l s)

again-tells : (k l : Bool) (fs held : List ℕ) (a : At) (s : Sense) (t : List ScriptEvent) → fs ≡ [] → held ≡ [] → as_page a ≡ Code (paged s) → told_after fs held a (class_of (blank_byte k l)) (blank_byte k l) t ≡ t
again-tells k l fs held a s t e f g = told_after-paged fs held a (class_of (blank_byte k l)) (blank_byte k l) t ∙ rw (e, f, g) (blank-silent k l (paged s) t)

blank-again : (k l : Bool) (s : Sense) (r p : ScriptReading) → IsBehindBlank s r p → IsBehindBlank s r (read_on (blank_byte k l ∷ []) p)
blank-again k l s r p h =
    let c = again-leads k l p.state.literals p.state.held p.state.at s h.outside h.held h.code in
    record {
      star = h.star;
      comment = h.comment;
      outside = ap (λ (q : ScriptPoint). q.literals) c;
      code = ap (λ (q : ScriptPoint). q.at) c;
      held = none-held k l (tells_white_apart p.state.at) p.state.held;
      told = again-tells k l p.state.literals p.state.held p.state.at s p.told h.outside h.held h.code ∙ h.told;
    }

pub comment-ends : (s : Sense) (r p : ScriptReading) → IsBehindBlank s r p → point_of (feed_script r.state 47) ≡ point [] (Code s) → WrittenReadsAs (read_on (codes "/") r) p
comment-ends s r p h e = record {
  same = record {
    literals = h.outside ∙ sym (ap (λ (q : ScriptPoint). q.literals) e);
    held = h.held ∙ sym (none-held-by-slash (tells_white_apart r.state.at) r.state.held);
    at = h.code ∙ sym (ap (λ (q : ScriptPoint). as_page q.at) e);
  };
  told = h.told ∙ sym (comment-tells r.state.literals r.state.held r.state.at s h.star (class_of 47) 47 r.told h.comment);
}

-- A line comment, to the end of its line.
pub letters-stay : (held : List ℕ) (s : Sense) → points (classed_as class.Letter held) (point [] (LineComment s)) ≡ point [] (LineComment s)
letters-stay [] s = refl
letters-stay (b ∷ held) s = letters-stay held s

pub letters-silent : (held : List ℕ) (s : Sense) (t : List ScriptEvent) → tells_all (classed_as class.Letter held) (point [] (LineComment s)) t ≡ t
letters-silent [] s t = refl
letters-silent (b ∷ held) s t = letters-silent held s t

line-leads : (l : Bool) (held : List ℕ) (s : Sense) → point_after [] held (LineComment s) (class_of (blank_byte true l)) (blank_byte true l) ≡ point [] (Code s)
line-leads l held s =
    ap (λ (xs : List ClassedByte). points xs (point [] (LineComment s))) (read-blank true l true held)
    ∙ points-end (classed_as class.Letter held) (classed class.LineEnd (blank_byte true l)) (point [] (LineComment s))
    ∙ ap (λ (q : ScriptPoint). script_next q.literals q.at class.LineEnd (blank_byte true l)) (letters-stay held s)

line-silent : (l : Bool) (held : List ℕ) (s : Sense) (t : List ScriptEvent) → told_after [] held (LineComment s) (class_of (blank_byte true l)) (blank_byte true l) t ≡ t
line-silent l held s t =
    ap (λ (xs : List ClassedByte). tells_all xs (point [] (LineComment s)) t) (read-blank true l true held)
    ∙ tells-end (classed_as class.Letter held) (classed class.LineEnd (blank_byte true l)) (point [] (LineComment s)) t
    ∙ ap (λ (q : ScriptPoint). tells q.literals q.at class.LineEnd (blank_byte true l) (tells_all (classed_as class.Letter held) (point [] (LineComment s)) t)) (letters-stay held s)
    ∙ letters-silent held s t

line-point : (l : Bool) (fs held : List ℕ) (a : At) (s : Sense) → point fs a ≡ point [] (LineComment s) → point_after fs held a (class_of (blank_byte true l)) (blank_byte true l) ≡ point [] (Code s)
line-point l fs held a s e = rw (ap (λ (q : ScriptPoint). q.literals) e, ap (λ (q : ScriptPoint). q.at) e) (line-leads l held s)

line-told : (l : Bool) (fs held : List ℕ) (a : At) (s : Sense) (t : List ScriptEvent) → point fs a ≡ point [] (LineComment s) → told_after fs held a (class_of (blank_byte true l)) (blank_byte true l) t ≡ t
line-told l fs held a s t e = rw (ap (λ (q : ScriptPoint). q.literals) e, ap (λ (q : ScriptPoint). q.at) e) (line-silent l held s t)

line-ends : (l : Bool) (s : Sense) (r p q : ScriptReading) → WrittenReadsAs r p → IsBeforeSlash s r.state → point_of q.state ≡ point [] (LineComment s) → q.told ≡ script_emits r.state 47 r.told
    → WrittenReadsAs (read_on (blank_byte true l ∷ []) q) (read_on (blank_byte true l ∷ []) p)
line-ends l s r p q h e f g =
    let n = byte-read (blank_byte true l) r p h in
    let c = blank-leads true l s r.state e in
    let d = line-point l q.state.literals q.state.held q.state.at s f in
    record {
      same = record {
        literals = n.same.literals ∙ ap (λ (x : ScriptPoint). x.literals) (c ∙ sym d);
        held = n.same.held ∙ none-held true l (tells_white_apart r.state.at) r.state.held ∙ sym (none-held true l (tells_white_apart q.state.at) q.state.held);
        at = n.same.at ∙ ap (λ (x : ScriptPoint). as_page x.at) (c ∙ sym d);
      };
      told = n.told ∙ blank-tells true l s r.state r.told e ∙ sym g ∙ sym (line-told l q.state.literals q.state.held q.state.at s q.told f);
    }

pub begins-as : (line : Bool) (s : Sense) (r p : ScriptReading) → WrittenReadsAs r p → IsBeforeSlash s r.state → IsBehindBlank s (read_on (codes "/*") r) (read_on (blank line) p)
begins-as false s r p h e = blank-begins false true s r p h e
begins-as true s r p h e = blank-begins true true s r p h e

pub again-as : (line : Bool) (s : Sense) (r p : ScriptReading) → IsBehindBlank s r p → IsBehindBlank s r (read_on (blank line) p)
again-as false s r p h = blank-again false true s r p h
again-as true s r p h = blank-again true true s r p h

pub line-as : (line : Bool) (s : Sense) (r p q : ScriptReading) → WrittenReadsAs r p → IsBeforeSlash s r.state → point_of q.state ≡ point [] (LineComment s) → q.told ≡ script_emits r.state 47 r.told
    → WrittenReadsAs (read_on (line_end line) q) (read_on (line_end line) p)
line-as false s r p q h e f g = line-ends false s r p q h e f g
line-as true s r p q h e f g = line-ends true s r p q h e f g
