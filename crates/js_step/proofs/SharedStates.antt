-- Where paths differ in what a slash would be, they share the state but for that.
use Rattle.std.proofs.Common.{◌≡◌, ◌∙◌, ℕ, nat_lt, Bool, true, false, List, [], ◌∷◌, ◌++◌, refl, sym, ap}
use Rattle.js_lexer.specs.Classes.{class_of}
use Rattle.js_lexer.specs.Feeding.{read_at, points, feed_script}
use Rattle.js_lexer.specs.States.{At, Code, Word, Number, Pluses, Minuses, Slash, LineComment, BlockComment, InString, InRegexp, InTemplate, TooDeep, PartLines, Trail, ScriptPoint, point, ScriptState}
use Rattle.js_lexer.specs.Steps.{script_next, next_block}
use Rattle.js_lexer.specs.Trails.{escape_after, brace_after, bracket_after, literal_after, lines_after}
use Rattle.js_lexer.specs.WhiteSpace.{PastAscii, IsSpace, IsSeparator, BeginsWhite, IsOther, past_ascii, ClassedByte, classed, classed_as, released_alone, released_past_ascii, released_by, released}
use Rattle.js_lexer.specs.declared.class.ScriptClass.{ScriptClass}
use Rattle.js_lexer.specs.declared.class.ScriptClass.TheVariants as class
use Rattle.js_lexer.specs.declared.sense.Sense.{Sense}
use Rattle.js_lexer.specs.declared.sense.Sense.TheVariants as sense
use Rattle.js_step.specs.ScriptScans.{script_at_in, script_in_sense}
use Rattle.js_step.specs.ScriptSetLaws.{KeepsSense, keeps_code, keeps_line, keeps_block, ScriptSensesShare}

-- a point but for what a slash would be
abbrev plain : ScriptPoint → ScriptPoint
plain p = point p.literals (script_at_in sense.Re p.at)

-- what a byte releases: letters and one more, or white space
data Shape : List ClassedByte → Type 0 where
  shape_letters : (h : List ℕ) → Shape (classed_as class.Letter h ++ [])
  shape_more : (h : List ℕ) (c : ScriptClass) (b : ℕ) → Shape (classed_as class.Letter h ++ classed c b ∷ [])
  shape_space : (h : List ℕ) → Shape (classed_as class.Space h)
  shape_lines : (h : List ℕ) → Shape (classed_as class.LineEnd h)

shape-alone : (f : PastAscii) (h : List ℕ) (b : ℕ) → Shape (classed_as class.Letter h ++ released_alone f b)
shape-alone IsSpace h b = shape_more h (class_of b) b
shape-alone IsSeparator h b = shape_more h (class_of b) b
shape-alone BeginsWhite h b = shape_letters h
shape-alone IsOther h b = shape_more h (class_of b) b

shape-past : (f : PastAscii) (h : List ℕ) (b : ℕ) → Shape (released_past_ascii f h b)
shape-past IsSpace h b = shape_space (h ++ b ∷ [])
shape-past IsSeparator h b = shape_lines (h ++ b ∷ [])
shape-past BeginsWhite h b = shape_letters []
shape-past IsOther h b = shape-alone (past_ascii (b ∷ [])) h b

shape-by : (x : Bool) (h : List ℕ) (b : ℕ) → Shape (released_by x h b)
shape-by true h b = shape_more h (class_of b) b
shape-by false h b = shape-past (past_ascii (h ++ b ∷ [])) h b

shape-of : (h : List ℕ) (b : ℕ) → Shape (released h b)
unfolding released
shape-of h b = shape-by (nat_lt b 128) h b

-- in code
code-one : (fs : List ℕ) (s t : Sense) (c : ScriptClass) (b : ℕ) → plain (script_next fs (Code s) c b) ≡ plain (script_next fs (Code t) c b)
code-one fs s t class.Space b = refl
code-one fs s t _ b = refl

code-space : (fs : List ℕ) (s t : Sense) (h : List ℕ) → plain (points (classed_as class.Space h) (point fs (Code s))) ≡ plain (points (classed_as class.Space h) (point fs (Code t)))
code-space fs s t [] = refl
code-space fs s t (z ∷ h) = code-space fs s t h

code-lines : (fs : List ℕ) (s t : Sense) (h : List ℕ) → plain (points (classed_as class.LineEnd h) (point fs (Code s))) ≡ plain (points (classed_as class.LineEnd h) (point fs (Code t)))
code-lines fs s t [] = refl
code-lines fs s t (z ∷ h) = code-lines fs s t h

code-points : (fs : List ℕ) (s t : Sense) (xs : List ClassedByte) → Shape xs → plain (points xs (point fs (Code s))) ≡ plain (points xs (point fs (Code t)))
code-points fs s t _ (shape_letters []) = refl
code-points fs s t _ (shape_letters (z ∷ h)) = refl
code-points fs s t _ (shape_more [] c b) = code-one fs s t c b
code-points fs s t _ (shape_more (z ∷ h) c b) = refl
code-points fs s t _ (shape_space h) = code-space fs s t h
code-points fs s t _ (shape_lines h) = code-lines fs s t h

-- in a comment that ends with its line
line-one : (fs : List ℕ) (s t : Sense) (c : ScriptClass) (b : ℕ) → plain (script_next fs (LineComment s) c b) ≡ plain (script_next fs (LineComment t) c b)
line-one fs s t class.LineEnd b = refl
line-one fs s t _ b = refl

line-letters : (fs : List ℕ) (s t : Sense) (h : List ℕ) → plain (points (classed_as class.Letter h ++ []) (point fs (LineComment s))) ≡ plain (points (classed_as class.Letter h ++ []) (point fs (LineComment t)))
line-letters fs s t [] = refl
line-letters fs s t (z ∷ h) = line-letters fs s t h

line-more : (fs : List ℕ) (s t : Sense) (h : List ℕ) (c : ScriptClass) (b : ℕ)
    → plain (points (classed_as class.Letter h ++ classed c b ∷ []) (point fs (LineComment s))) ≡ plain (points (classed_as class.Letter h ++ classed c b ∷ []) (point fs (LineComment t)))
line-more fs s t [] c b = line-one fs s t c b
line-more fs s t (z ∷ h) c b = line-more fs s t h c b

line-space : (fs : List ℕ) (s t : Sense) (h : List ℕ) → plain (points (classed_as class.Space h) (point fs (LineComment s))) ≡ plain (points (classed_as class.Space h) (point fs (LineComment t)))
line-space fs s t [] = refl
line-space fs s t (z ∷ h) = line-space fs s t h

line-lines : (fs : List ℕ) (s t : Sense) (h : List ℕ) → plain (points (classed_as class.LineEnd h) (point fs (LineComment s))) ≡ plain (points (classed_as class.LineEnd h) (point fs (LineComment t)))
line-lines fs s t [] = refl
line-lines fs s t (z ∷ h) = code-lines fs s t h

line-points : (fs : List ℕ) (s t : Sense) (xs : List ClassedByte) → Shape xs → plain (points xs (point fs (LineComment s))) ≡ plain (points xs (point fs (LineComment t)))
line-points fs s t _ (shape_letters h) = line-letters fs s t h
line-points fs s t _ (shape_more h c b) = line-more fs s t h c b
line-points fs s t _ (shape_space h) = line-space fs s t h
line-points fs s t _ (shape_lines h) = line-lines fs s t h

-- in the other one
block-one : (fs : List ℕ) (s t : Sense) (star : Bool) (c : ScriptClass) → plain (next_block s star c fs) ≡ plain (next_block t star c fs)
block-one fs s t true class.Solidus = refl
block-one fs s t star class.Asterisk = refl
block-one fs s t false class.Solidus = refl
block-one fs s t star _ = refl

-- the trail does not see the sense
escape-plain : (a : At) (m : List ℕ) (b : ℕ) → escape_after (script_at_in sense.Re a) m b ≡ escape_after a m b
escape-plain (Code s) m b = refl
escape-plain (Word w) m b = refl
escape-plain Number m b = refl
escape-plain (Pluses odd) m b = refl
escape-plain (Minuses odd) m b = refl
escape-plain (Slash s) m b = refl
escape-plain (LineComment s) m b = refl
escape-plain (BlockComment s star) m b = refl
escape-plain (InString q e) m b = refl
escape-plain (InRegexp k e) m b = refl
escape-plain (InTemplate e d) m b = refl
escape-plain TooDeep m b = refl

brace-plain : (a : At) (m : List ℕ) (n b : ℕ) → brace_after (script_at_in sense.Re a) m n b ≡ brace_after a m n b
brace-plain (Code s) m n b = refl
brace-plain (Word w) m n b = refl
brace-plain Number m n b = refl
brace-plain (Pluses odd) m n b = refl
brace-plain (Minuses odd) m n b = refl
brace-plain (Slash s) m n b = refl
brace-plain (LineComment s) m n b = refl
brace-plain (BlockComment s star) m n b = refl
brace-plain (InString q e) m n b = refl
brace-plain (InRegexp k e) m n b = refl
brace-plain (InTemplate e d) m n b = refl
brace-plain TooDeep m n b = refl

bracket-plain : (a : At) (n : ℕ) → bracket_after (script_at_in sense.Re a) n ≡ bracket_after a n
bracket-plain (Code s) n = refl
bracket-plain (Word w) n = refl
bracket-plain Number n = refl
bracket-plain (Pluses odd) n = refl
bracket-plain (Minuses odd) n = refl
bracket-plain (Slash s) n = refl
bracket-plain (LineComment s) n = refl
bracket-plain (BlockComment s star) n = refl
bracket-plain (InString q e) n = refl
bracket-plain (InRegexp true e) n = refl
bracket-plain (InRegexp false e) n = refl
bracket-plain (InTemplate e d) n = refl
bracket-plain TooDeep n = refl

lines-plain : (a : At) (z : PartLines) (b : ℕ) → lines_after (script_at_in sense.Re a) z b ≡ lines_after a z b
lines-plain (Code s) z b = refl
lines-plain (Word w) z b = refl
lines-plain Number z b = refl
lines-plain (Pluses odd) z b = refl
lines-plain (Minuses odd) z b = refl
lines-plain (Slash s) z b = refl
lines-plain (LineComment s) z b = refl
lines-plain (BlockComment s star) z b = refl
lines-plain (InString q e) z b = refl
lines-plain (InRegexp k e) z b = refl
lines-plain (InTemplate e d) z b = refl
lines-plain TooDeep z b = refl

-- a state behind a byte, by the point to which it has led
abbrev behind : Trail → (fresh : Bool) → (markup held : List ℕ) → ℕ → ScriptPoint → ScriptState
behind t fresh m h b p = record {
  literals = p.literals;
  at = p.at;
  held = h;
  trail = record {
    fresh = fresh;
    markup = m;
    escape = escape_after p.at t.escape b;
    brace = brace_after p.at t.escape t.brace b;
    bracket = bracket_after p.at t.bracket;
    literal = literal_after p.literals t.literal;
    lines = lines_after p.at t.lines b;
  };
}

abbrev seen : Trail → (fresh : Bool) → (markup held : List ℕ) → ScriptPoint → List ℕ → ℕ → ℕ → PartLines → ScriptState
seen t fresh m h p e n k z = record {
  literals = p.literals;
  at = script_at_in sense.Re p.at;
  held = h;
  trail = record { fresh = fresh; markup = m; escape = e; brace = n; bracket = k; literal = literal_after p.literals t.literal; lines = z };
}

behind-plain : (t : Trail) (fresh : Bool) (m h : List ℕ) (b : ℕ) (p : ScriptPoint) → script_in_sense sense.Re (behind t fresh m h b p) ≡ behind t fresh m h b (plain p)
behind-plain t fresh m h b p =
    ap (λ (e : List ℕ). seen t fresh m h p e (brace_after p.at t.escape t.brace b) (bracket_after p.at t.bracket) (lines_after p.at t.lines b)) (sym (escape-plain p.at t.escape b))
    ∙ (ap (λ (n : ℕ). seen t fresh m h p (escape_after (script_at_in sense.Re p.at) t.escape b) n (bracket_after p.at t.bracket) (lines_after p.at t.lines b)) (sym (brace-plain p.at t.escape t.brace b))
    ∙ (ap (λ (k : ℕ). seen t fresh m h p (escape_after (script_at_in sense.Re p.at) t.escape b) (brace_after (script_at_in sense.Re p.at) t.escape t.brace b) k (lines_after p.at t.lines b))
    (sym (bracket-plain p.at t.bracket))
    ∙ ap (seen t fresh m h p (escape_after (script_at_in sense.Re p.at) t.escape b) (brace_after (script_at_in sense.Re p.at) t.escape t.brace b) (bracket_after (script_at_in sense.Re p.at) t.bracket))
    (sym (lines-plain p.at t.lines b))))

same-behind : (t : Trail) (fresh : Bool) (m h : List ℕ) (b : ℕ) (p q : ScriptPoint) → plain p ≡ plain q
    → script_in_sense sense.Re (behind t fresh m h b p) ≡ script_in_sense sense.Re (behind t fresh m h b q)
same-behind t fresh m h b p q e = behind-plain t fresh m h b p ∙ (ap (behind t fresh m h b) e ∙ sym (behind-plain t fresh m h b q))

shared-by : (fs : List ℕ) (a : At) (h : List ℕ) (t : Trail) → KeepsSense a → (s r : Sense) (b : ℕ)
    → script_in_sense sense.Re (feed_script (record { literals = fs; at = script_at_in s a; held = h; trail = t }) b)
    ≡ script_in_sense sense.Re (feed_script (record { literals = fs; at = script_at_in r a; held = h; trail = t }) b)
shared-by fs _ h t (keeps_code z) s r b =
    same-behind t _ _ _ b (points (read_at true h (class_of b) b) (point fs (Code s))) (points (read_at true h (class_of b) b) (point fs (Code r))) (code-points fs s r (read_at true h (class_of b) b) (shape-of h b))
shared-by fs _ h t (keeps_line z) s r b =
    same-behind t _ _ _ b (points (read_at true h (class_of b) b) (point fs (LineComment s))) (points (read_at true h (class_of b) b) (point fs (LineComment r)))
    (line-points fs s r (read_at true h (class_of b) b) (shape-of h b))
shared-by fs _ h t (keeps_block z star) s r b =
    same-behind t _ _ _ b (next_block s star (class_of b) fs) (next_block r star (class_of b) fs) (block-one fs s r star (class_of b))

pub script-senses-share : ScriptSensesShare
script-senses-share v k s r b = shared-by v.literals v.at v.held v.trail k s r b
