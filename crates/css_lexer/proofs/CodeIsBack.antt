-- What is written of a value in code is plain there, whatever the text, and whatever URLs there are.
use Rattle.std.proofs.Common.{◌≡◌, ℕ, ◌==◌, ◌||◌, cond, Bool, true, false, List, [], ◌∷◌, ◌++◌, refl, sym, ap, true≢false}
use Rattle.std.specs.List.{list_any}
use Rattle.css_lexer.specs.Classes.{style_class}
use Rattle.css_lexer.specs.Escapes.{NoEscape, AfterBackslash, HexDigits, AfterReturn}
use Rattle.css_lexer.specs.Events.{StyleEvent, RunByte}
use Rattle.css_lexer.specs.Paths.{out_settled}
use Rattle.css_lexer.specs.Plain.{InRun, IsPlainInStyle, BeginsApart, StyleLeadsPlain, is_asterisk, MayBePlainOutside, tells_plain, only_run}
use Rattle.css_lexer.specs.ReadBack.{IsBackInCode}
use Rattle.css_lexer.specs.Sanitizers.{is_forbidden, is_unsafe, css_value, style_failsafe}
use Rattle.css_lexer.specs.States.{SpellsUrl, Outside, Between, AfterLessThan, Word, AfterSolidus, Comment, InString, BadUrl, BehindHole, SplitWord, SolidusAtCut, LessThanAtCut, StarAtCut, Style, Out, InUrl}
use Rattle.css_lexer.specs.Steps.{style_next, style_emits_class, blank_once, feed_style, style_emits, StyleReading, style_reading, read_style}
use Rattle.css_lexer.specs.Unescaping.{style_escapes_undone}
use Rattle.css_lexer.specs.UrlReading.{UrlReading}
use Rattle.css_lexer.specs.declared.class.StyleClass.{StyleClass}
use Rattle.css_lexer.specs.declared.class.StyleClass.TheVariants as class

-- the classes of bytes of which runs are made, whatever stands around them
abbrev is_harmless : StyleClass → Bool
is_harmless class.Blank = true
is_harmless class.Newline = true
is_harmless class.WordByte = true
is_harmless class.OtherByte = true
is_harmless c = false

-- `p || q` is false
pub left : (p q : Bool) → p || q ≡ false → p ≡ false
left true q e = e
left false q e = refl

pub right : (p q : Bool) → p || q ≡ false → q ≡ false
right true q e = absurd (true≢false e)
right false q e = e

pub both : (p q : Bool) → p ≡ false → q ≡ false → p || q ≡ false
both true q e f = e
both false q e f = f

pub none-in : (p : ℕ → Bool) (bs cs : List ℕ) → list_any p bs ≡ false → list_any p cs ≡ false → list_any p (bs ++ cs) ≡ false
none-in p [] cs e f = f
none-in p (b ∷ bs) cs e f = both (p b) _ (left (p b) _ e) (none-in p bs cs (right (p b) _ e) f)

harmless-class : (blank newline word backslash quote apostrophe opening closing solidus asterisk less punctuation : Bool)
    → backslash ≡ false → quote ≡ false → apostrophe ≡ false → opening ≡ false → closing ≡ false → solidus ≡ false → asterisk ≡ false → less ≡ false → punctuation ≡ false
    → is_harmless (cond blank class.Blank (cond newline class.Newline (cond word class.WordByte (cond backslash class.ReverseSolidus (cond quote class.QuotationMark (cond apostrophe class.Apostrophe (cond opening class.LeftParenthesis (cond closing class.RightParenthesis (cond solidus class.Solidus (cond asterisk class.Asterisk (cond less class.LessThan (cond punctuation class.Punctuation class.OtherByte)))))))))))) ≡ true
harmless-class true n w b q a o c s k l p e1 e2 e3 e4 e5 e6 e7 e8 e9 = refl
harmless-class false true w b q a o c s k l p e1 e2 e3 e4 e5 e6 e7 e8 e9 = refl
harmless-class false false true b q a o c s k l p e1 e2 e3 e4 e5 e6 e7 e8 e9 = refl
harmless-class false false false true q a o c s k l p e1 e2 e3 e4 e5 e6 e7 e8 e9 = absurd (true≢false e1)
harmless-class false false false false true a o c s k l p e1 e2 e3 e4 e5 e6 e7 e8 e9 = absurd (true≢false e2)
harmless-class false false false false false true o c s k l p e1 e2 e3 e4 e5 e6 e7 e8 e9 = absurd (true≢false e3)
harmless-class false false false false false false true c s k l p e1 e2 e3 e4 e5 e6 e7 e8 e9 = absurd (true≢false e4)
harmless-class false false false false false false false true s k l p e1 e2 e3 e4 e5 e6 e7 e8 e9 = absurd (true≢false e5)
harmless-class false false false false false false false false true k l p e1 e2 e3 e4 e5 e6 e7 e8 e9 = absurd (true≢false e6)
harmless-class false false false false false false false false false true l p e1 e2 e3 e4 e5 e6 e7 e8 e9 = absurd (true≢false e7)
harmless-class false false false false false false false false false false true p e1 e2 e3 e4 e5 e6 e7 e8 e9 = absurd (true≢false e8)
harmless-class false false false false false false false false false false false true e1 e2 e3 e4 e5 e6 e7 e8 e9 = absurd (true≢false e9)
harmless-class false false false false false false false false false false false false e1 e2 e3 e4 e5 e6 e7 e8 e9 = refl

-- a byte that is not forbidden is of such a class; the bytes are forbidden in this order: NUL " ' ( ) * / ; @ [ \ ] { } < > `
harmless-byte : (b : ℕ) → is_forbidden b ≡ false → is_harmless (style_class b) ≡ true
unfolding style_class
harmless-byte b f0 =
    let f1 = right (b == 0) _ f0 in
    let f2 = right (b == 34) _ f1 in
    let f3 = right (b == 39) _ f2 in
    let f4 = right (b == 40) _ f3 in
    let f5 = right (b == 41) _ f4 in
    let f6 = right (b == 42) _ f5 in
    let f7 = right (b == 47) _ f6 in
    let f8 = right (b == 59) _ f7 in
    let f9 = right (b == 64) _ f8 in
    let f10 = right (b == 91) _ f9 in
    let f11 = right (b == 92) _ f10 in
    let f12 = right (b == 93) _ f11 in
    let f13 = right (b == 123) _ f12 in
    let f14 = right (b == 125) _ f13 in
    harmless-class _ _ _ (b == 92) (b == 34) (b == 39) (b == 40) (b == 41) (b == 47) (b == 42) (b == 60) _
    (left (b == 92) _ f10) (left (b == 34) _ f1) (left (b == 39) _ f2) (left (b == 40) _ f3) (left (b == 41) _ f4) (left (b == 47) _ f6) (left (b == 42) _ f5) (left (b == 60) _ f14)
    (both (b == 91) _ (left (b == 91) _ f9) (both (b == 93) _ (left (b == 93) _ f11) (both (b == 123) _ (left (b == 123) _ f12) (both (b == 125) _ (left (b == 125) _ f13) (both (b == 59) (b == 64) (left (b == 59) _ f7) (left (b == 64) _ f8))))))

-- a page in a run stays in one, and tells bytes of runs
abbrev LeadsRun : {U : Type 0} → Style U → Type 0
LeadsRun (Out s) = InRun s
LeadsRun (InUrl f u) = ⊥

abbrev IsRun : {U E : Type 0} → StyleReading U E → Type 0
IsRun r = LeadsRun r.at × (only_run r.told ≡ true)

leads : {U E : Type 0} (x : UrlReading U E) (s : Outside) (c : StyleClass) (b : ℕ) → InRun s → is_harmless c ≡ true → LeadsRun (style_next x (Out s) c b)
leads x (Between k) class.Blank b o h = tt
leads x (Between k) class.Newline b o h = tt
leads x (Between k) class.WordByte b o h = tt
leads x (Between k) class.OtherByte b o h = tt
leads x (Between k) c b o h = absurd (true≢false (sym h))
leads x AfterLessThan class.Blank b o h = tt
leads x AfterLessThan class.Newline b o h = tt
leads x AfterLessThan class.WordByte b o h = tt
leads x AfterLessThan class.OtherByte b o h = tt
leads x AfterLessThan c b o h = absurd (true≢false (sym h))
leads x (Word SpellsUrl NoEscape) class.LeftParenthesis b o h = absurd (true≢false (sym h))
leads x (Word w NoEscape) class.Blank b o h = tt
leads x (Word w NoEscape) class.Newline b o h = tt
leads x (Word w NoEscape) class.WordByte b o h = tt
leads x (Word w NoEscape) class.OtherByte b o h = tt
leads x (Word w NoEscape) c b o h = absurd (true≢false (sym h))
leads x (Word w AfterBackslash) c b o h = absurd o
leads x (Word w (HexDigits n)) c b o h = absurd o
leads x (Word w AfterReturn) c b o h = absurd o
leads x (AfterSolidus k) c b o h = absurd o
leads x (Comment star) c b o h = absurd o
leads x (InString q e) c b o h = absurd o
leads x BadUrl c b o h = absurd o
leads x (BehindHole solidus less) c b o h = absurd o
leads x (SplitWord e) c b o h = absurd o
leads x (SolidusAtCut k) c b o h = absurd o
leads x LessThanAtCut c b o h = absurd o
leads x StarAtCut c b o h = absurd o

blank-tells : {E : Type 0} (k : Bool) (t : List (StyleEvent E)) → only_run t ≡ true → only_run (blank_once k t) ≡ true
blank-tells true t r = r
blank-tells false t r = r

tells : {U E : Type 0} (x : UrlReading U E) (s : Outside) (c : StyleClass) (b : ℕ) (t : List (StyleEvent E)) → InRun s → is_harmless c ≡ true → only_run t ≡ true
    → only_run (style_emits_class x (Out s) c b t) ≡ true
tells x (Between k) class.Blank b t o h r = blank-tells k t r
tells x (Between k) class.Newline b t o h r = blank-tells k t r
tells x (Between k) class.WordByte b t o h r = r
tells x (Between k) class.OtherByte b t o h r = r
tells x (Between k) c b t o h r = absurd (true≢false (sym h))
tells x AfterLessThan class.Blank b t o h r = r
tells x AfterLessThan class.Newline b t o h r = r
tells x AfterLessThan class.WordByte b t o h r = r
tells x AfterLessThan class.OtherByte b t o h r = r
tells x AfterLessThan c b t o h r = absurd (true≢false (sym h))
tells x (Word SpellsUrl NoEscape) class.LeftParenthesis b t o h r = absurd (true≢false (sym h))
tells x (Word w NoEscape) class.Blank b t o h r = r
tells x (Word w NoEscape) class.Newline b t o h r = r
tells x (Word w NoEscape) class.WordByte b t o h r = r
tells x (Word w NoEscape) class.OtherByte b t o h r = r
tells x (Word w NoEscape) c b t o h r = absurd (true≢false (sym h))
tells x (Word w AfterBackslash) c b t o h r = absurd o
tells x (Word w (HexDigits n)) c b t o h r = absurd o
tells x (Word w AfterReturn) c b t o h r = absurd o
tells x (AfterSolidus k) c b t o h r = absurd o
tells x (Comment star) c b t o h r = absurd o
tells x (InString q e) c b t o h r = absurd o
tells x BadUrl c b t o h r = absurd o
tells x (BehindHole solidus less) c b t o h r = absurd o
tells x (SplitWord e) c b t o h r = absurd o
tells x (SolidusAtCut k) c b t o h r = absurd o
tells x LessThanAtCut c b t o h r = absurd o
tells x StarAtCut c b t o h r = absurd o

run-byte : {U E : Type 0} (x : UrlReading U E) (v : Style U) (b : ℕ) (t : List (StyleEvent E)) → is_forbidden b ≡ false → LeadsRun v → only_run t ≡ true
    → IsRun (style_reading (feed_style x v b) (style_emits x v b t))
run-byte x (Out s) b t n o r = (leads x s (style_class b) b o (harmless-byte b n), tells x s (style_class b) b t o (harmless-byte b n) r)
run-byte x (InUrl f u) b t n o r = absurd o

run-bytes : {U E : Type 0} (x : UrlReading U E) (bs : List ℕ) (v : Style U) (t : List (StyleEvent E)) → list_any is_forbidden bs ≡ false → LeadsRun v → only_run t ≡ true
    → IsRun (read_style x bs (style_reading v t))
run-bytes x [] v t n o r = (o, r)
run-bytes x (b ∷ bs) v t n o r =
    let h = run-byte x v b t (left (is_forbidden b) _ n) o r in
    run-bytes x bs (feed_style x v b) (style_emits x v b t) (right (is_forbidden b) _ n) h.0 h.1

-- what is written has no forbidden byte
written-safe : (q : Bool) (text : List ℕ) → is_unsafe text ≡ q → list_any is_forbidden (cond q style_failsafe text) ≡ false
written-safe true text e = refl
written-safe false text e = left (list_any is_forbidden text) _ e

pub value-safe : (text : List ℕ) → list_any is_forbidden (css_value text) ≡ false
value-safe text = written-safe (is_unsafe (style_escapes_undone text)) (style_escapes_undone text) refl

-- behind a `/` a byte that is no `*` is read as it is where the `/` has been told
solidus-apart : {U E : Type 0} (x : UrlReading U E) (k : Bool) (c : StyleClass) (b : ℕ) → is_harmless c ≡ true
    → style_reading {U = U} {E = E} (style_next x (Out (AfterSolidus k)) c b) (style_emits_class x (Out (AfterSolidus k)) c b []) ≡ style_reading (style_next x (Out (Between false)) c b) (style_emits_class x (Out (Between false)) c b (RunByte 47 ∷ []))
solidus-apart x k class.Asterisk b h = absurd (true≢false (sym h))
solidus-apart x k c b h = refl

solidus-bytes : {U E : Type 0} (x : UrlReading U E) (k : Bool) (bs : List ℕ) → list_any is_forbidden bs ≡ false → BeginsApart x bs (Out (AfterSolidus k))
solidus-bytes x k [] n = tt
solidus-bytes {U} {E} x k (b ∷ bs) n = ap (λ (r : StyleReading U E). read_style x bs r) (solidus-apart x k (style_class b) b (harmless-byte b (left (is_forbidden b) _ n)))

cut-apart : {U E : Type 0} (x : UrlReading U E) (k : Bool) (c : StyleClass) (b : ℕ) → is_harmless c ≡ true
    → style_reading {U = U} {E = E} (style_next x (Out (SolidusAtCut k)) c b) (style_emits_class x (Out (SolidusAtCut k)) c b []) ≡ style_reading (style_next x (Out (Between false)) c b) (style_emits_class x (Out (Between false)) c b (RunByte 47 ∷ []))
cut-apart x k class.Asterisk b h = absurd (true≢false (sym h))
cut-apart x k c b h = refl

cut-bytes : {U E : Type 0} (x : UrlReading U E) (k : Bool) (bs : List ℕ) → list_any is_forbidden bs ≡ false → BeginsApart x bs (Out (SolidusAtCut k))
cut-bytes x k [] n = tt
cut-bytes {U} {E} x k (b ∷ bs) n = ap (λ (r : StyleReading U E). read_style x bs r) (cut-apart x k (style_class b) b (harmless-byte b (left (is_forbidden b) _ n)))

run-apart : {U E : Type 0} (x : UrlReading U E) (s : Outside) (bs : List ℕ) → out_settled s ≡ s → list_any is_forbidden bs ≡ false → InRun s → BeginsApart x bs (Out s)
run-apart x s [] e n o = tt
run-apart x (Between k) (b ∷ bs) e n o = refl
run-apart x AfterLessThan (b ∷ bs) e n o = refl
run-apart x (Word w i) (b ∷ bs) e n o = refl
run-apart x (AfterSolidus k) (b ∷ bs) e n o = absurd o
run-apart x (Comment star) (b ∷ bs) e n o = absurd o
run-apart x (InString q i) (b ∷ bs) e n o = absurd o
run-apart x BadUrl (b ∷ bs) e n o = absurd o
run-apart x (BehindHole solidus less) (b ∷ bs) e n o = absurd o
run-apart x (SplitWord i) (b ∷ bs) e n o = absurd o
run-apart x (SolidusAtCut k) (b ∷ bs) e n o = absurd o
run-apart x LessThanAtCut (b ∷ bs) e n o = absurd o
run-apart x StarAtCut (b ∷ bs) e n o = absurd o

leads-plain : {U E : Type 0} (x : UrlReading U E) (s : Outside) (v : Style U) → InRun s → LeadsRun v → StyleLeadsPlain x (Out s) v
leads-plain x (Between k) (Out z) o h = (o, h)
leads-plain x AfterLessThan (Out z) o h = (o, h)
leads-plain x (Word w i) (Out z) o h = (o, h)
leads-plain x (AfterSolidus k) (Out z) o h = absurd o
leads-plain x (Comment star) (Out z) o h = absurd o
leads-plain x (InString q i) (Out z) o h = absurd o
leads-plain x BadUrl (Out z) o h = absurd o
leads-plain x (BehindHole solidus less) (Out z) o h = absurd o
leads-plain x (SplitWord i) (Out z) o h = absurd o
leads-plain x (SolidusAtCut k) (Out z) o h = absurd o
leads-plain x LessThanAtCut (Out z) o h = absurd o
leads-plain x StarAtCut (Out z) o h = absurd o
leads-plain x s (InUrl f u) o h = absurd h

tells-plain : (U E : Type 0) (s : Outside) (t : List (StyleEvent E)) → InRun s → only_run t ≡ true → tells_plain {U = U} (Out s) t ≡ true
tells-plain U E (Between k) t o h = h
tells-plain U E AfterLessThan t o h = h
tells-plain U E (Word w i) t o h = h
tells-plain U E (AfterSolidus k) t o h = absurd o
tells-plain U E (Comment star) t o h = absurd o
tells-plain U E (InString q i) t o h = absurd o
tells-plain U E BadUrl t o h = absurd o
tells-plain U E (BehindHole solidus less) t o h = absurd o
tells-plain U E (SplitWord i) t o h = absurd o
tells-plain U E (SolidusAtCut k) t o h = absurd o
tells-plain U E LessThanAtCut t o h = absurd o
tells-plain U E StarAtCut t o h = absurd o

-- no byte is a `*`
not-asterisk : (b : ℕ) → is_forbidden b ≡ false → is_asterisk b ≡ false
not-asterisk b f0 =
    let f1 = right (b == 0) _ f0 in
    let f2 = right (b == 34) _ f1 in
    let f3 = right (b == 39) _ f2 in
    let f4 = right (b == 40) _ f3 in
    let f5 = right (b == 41) _ f4 in
    left (b == 42) _ f5

no-asterisk : (bs : List ℕ) → list_any is_forbidden bs ≡ false → list_any is_asterisk bs ≡ false
no-asterisk [] n = refl
no-asterisk (b ∷ bs) n = both (is_asterisk b) _ (not-asterisk b (left (is_forbidden b) _ n)) (no-asterisk bs (right (is_forbidden b) _ n))

may-be-plain : (s : Outside) (bs : List ℕ) → InRun (out_settled s) → list_any is_asterisk bs ≡ false → MayBePlainOutside bs s
may-be-plain (Between k) bs o n = n
may-be-plain AfterLessThan bs o n = n
may-be-plain (Word w i) bs o n = n
may-be-plain (AfterSolidus k) bs o n = n
may-be-plain (SolidusAtCut k) bs o n = n
may-be-plain (Comment star) bs o n = absurd o
may-be-plain (InString q i) bs o n = absurd o
may-be-plain BadUrl bs o n = absurd o
may-be-plain (BehindHole solidus less) bs o n = absurd o
may-be-plain (SplitWord i) bs o n = absurd o
may-be-plain LessThanAtCut bs o n = absurd o
may-be-plain StarAtCut bs o n = absurd o

plain-by : {U E : Type 0} (x : UrlReading U E) (s : Outside) (bs : List ℕ) → list_any is_forbidden bs ≡ false → BeginsApart x bs (Out s) → InRun (out_settled s) → IsPlainInStyle x bs (Out s)
plain-by {U} {E} x s bs n a o =
    let h : IsRun (read_style x bs (style_reading (Out (out_settled s)) [])) = run-bytes x bs (Out (out_settled s)) [] n o refl in
    record { apart = a; leads = leads-plain x (out_settled s) _ o h.0; allowed = may-be-plain s bs o (no-asterisk bs n); tells = tells-plain U E (out_settled s) _ o h.1 }

code-plain : {U E : Type 0} (x : UrlReading U E) (s : Outside) (bs : List ℕ) → list_any is_forbidden bs ≡ false → InRun (out_settled s) → IsPlainInStyle x bs (Out s)
code-plain x (Between k) bs n o = plain-by x (Between k) bs n (run-apart x (Between k) bs refl n o) o
code-plain x AfterLessThan bs n o = plain-by x AfterLessThan bs n (run-apart x AfterLessThan bs refl n o) o
code-plain x (Word w i) bs n o = plain-by x (Word w i) bs n (run-apart x (Word w i) bs refl n o) o
code-plain x (AfterSolidus k) bs n o = plain-by x (AfterSolidus k) bs n (solidus-bytes x k bs n) o
code-plain x (SolidusAtCut k) bs n o = plain-by x (SolidusAtCut k) bs n (cut-bytes x k bs n) o
code-plain x (Comment star) bs n o = absurd o
code-plain x (InString q i) bs n o = absurd o
code-plain x BadUrl bs n o = absurd o
code-plain x (BehindHole solidus less) bs n o = absurd o
code-plain x (SplitWord i) bs n o = absurd o
code-plain x LessThanAtCut bs n o = absurd o
code-plain x StarAtCut bs n o = absurd o

pub code-back : {U E : Type 0} (x : UrlReading U E) (text : List ℕ) → IsBackInCode x text (css_value text)
code-back x text = record { plain = λ s o. code-plain x s (css_value text) (value-safe text) o; reads = refl }
