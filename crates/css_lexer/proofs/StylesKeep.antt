-- Styles have the laws of a language of values, over any URLs that have theirs.
use Rattle.std.proofs.Common.{◌≡◌, inl, inr, ℕ, Bool, true, false, List, ◌∷◌, Some, None, refl, sym, ap, subst}
use Rattle.css_lexer.specs.Alike.{IsOfPage, AreAlikeOutside, the_same, hole_between, hole_less_than, hole_word, split_word, cut_solidus, cut_less_than, cut_star, StylesAlike, outside, in_url, unbegun, unbegun_ended}
use Rattle.css_lexer.specs.Classes.{style_class}
use Rattle.css_lexer.specs.Escapes.{StyleEscape, NoEscape, AfterBackslash, HexDigits, AfterReturn, is_taken_in_style}
use Rattle.css_lexer.specs.Events.{StyleEvent, UrlEnds, told_in_url}
use Rattle.css_lexer.specs.Laws.{UrlReadingLaws, StyleLaws}
use Rattle.css_lexer.specs.Paths.{out_after_cut, style_after_cut, out_settled, style_settled, style_emits_settled, out_has_mark, has_mark, out_after_hole, form_after_hole, style_after_hole, style_behind}
use Rattle.css_lexer.specs.Plain.{InRun, LeadsPlainOutside, LeadsPlainForm, StyleLeadsPlain}
use Rattle.css_lexer.specs.Refusals.{refuses_out, refuses_bare, refuses_fresh, refuses_quoted, refuses_ended, refuses_in_url, style_refuses_class, refuses_in_escape, refuses_cut_out, refuses_cut_in_url, style_refuses_cut}
use Rattle.css_lexer.specs.States.{Quote, DoubleQuote, SingleQuote, UrlWord, SpellsUrl, Outside, Between, AfterLessThan, Word, AfterSolidus, Comment, InString, BadUrl, BehindHole, SplitWord, SolidusAtCut, LessThanAtCut, StarAtCut, UrlForm, Fresh, Bare, Quoted, Ended, Style, Out, InUrl}
use Rattle.css_lexer.specs.Steps.{next_between, next_style_word, next_solidus, next_style_comment, next_style_string, next_bare, next_fresh, next_quoted, next_ended, next_bad, next_split, next_out, next_in_url, style_next, emits_word, emits_split, emits_out, emits_bare, emits_fresh, emits_quoted, emits_ended, emits_in_url, style_emits_class, style_ends}
use Rattle.css_lexer.specs.UrlReading.{UrlReading}
use Rattle.css_lexer.specs.declared.class.StyleClass.{StyleClass}
use Rattle.css_lexer.specs.declared.class.StyleClass.TheVariants as class

pub some : {A : Type 0} (a : A) → Some a ≡ None → ⊥
some a e = cc

-- what a byte tells, outside url tokens
word-tells : {E : Type 0} (w : UrlWord) (c : StyleClass) (b : ℕ) (t : List (StyleEvent E)) (solidus less : Bool) → refuses_out (BehindHole solidus less) c b ≡ None
    → emits_word w NoEscape c b t ≡ emits_split NoEscape c b t
word-tells SpellsUrl class.LeftParenthesis b t solidus less n = absurd (some _ n)
word-tells SpellsUrl c b t solidus less n = refl
word-tells w c b t solidus less n = refl

split-tells : {E : Type 0} (w : UrlWord) (e : StyleEscape) (c : StyleClass) (b : ℕ) (t : List (StyleEvent E)) → refuses_out (SplitWord e) c b ≡ None → emits_word w e c b t ≡ emits_split e c b t
split-tells w AfterBackslash c b t n = refl
split-tells SpellsUrl NoEscape class.LeftParenthesis b t n = absurd (some _ n)
split-tells SpellsUrl (HexDigits k) class.LeftParenthesis b t n = absurd (some _ n)
split-tells SpellsUrl AfterReturn class.LeftParenthesis b t n = absurd (some _ n)
split-tells w NoEscape c b t n = refl
split-tells w (HexDigits k) c b t n = refl
split-tells w AfterReturn c b t n = refl

out-tells : {E : Type 0} (s r : Outside) (c : StyleClass) (b : ℕ) (t : List (StyleEvent E)) → AreAlikeOutside s r → refuses_out s c b ≡ None → emits_out r c b t ≡ emits_out s c b t
out-tells s r c b t (the_same z o) n = refl
out-tells s r c b t (hole_between solidus less) n = refl
out-tells s r c b t (hole_less_than solidus less) n = refl
out-tells s r c b t (hole_word solidus less w) n = word-tells w c b t solidus less n
out-tells s r c b t (split_word w e) n = split-tells w e c b t n
out-tells s r c b t (cut_solidus k) n = refl
out-tells s r c b t cut_less_than n = refl
out-tells s r c b t (cut_star star) n = refl

-- in a url token
bare-tells : {U E : Type 0} {x : UrlReading U E} → UrlReadingLaws U E x → (u w : U) (c : StyleClass) (b : ℕ) (t : List (StyleEvent E)) → x.AreAlike u w → refuses_bare x u c b ≡ None
    → emits_bare x w c b t ≡ emits_bare x u c b t
bare-tells l u w class.Blank b t a n = refl
bare-tells l u w class.Newline b t a n = refl
bare-tells l u w class.RightParenthesis b t a n = ap (λ es. UrlEnds ∷ told_in_url es t) (l.ends u w a)
bare-tells l u w class.QuotationMark b t a n = refl
bare-tells l u w class.Apostrophe b t a n = refl
bare-tells l u w class.LeftParenthesis b t a n = refl
bare-tells l u w class.ReverseSolidus b t a n = absurd (some _ n)
bare-tells l u w c b t a n = ap (λ es. told_in_url es t) (l.emits u w b a n)

fresh-tells : {U E : Type 0} {x : UrlReading U E} → UrlReadingLaws U E x → (u w : U) (c : StyleClass) (b : ℕ) (t : List (StyleEvent E)) → x.AreAlike u w → refuses_fresh x u c b ≡ None
    → emits_fresh x w c b t ≡ emits_fresh x u c b t
fresh-tells l u w class.QuotationMark b t a n = refl
fresh-tells l u w class.Apostrophe b t a n = refl
fresh-tells l u w c b t a n = bare-tells l u w c b t a n

quoted-tells : {U E : Type 0} {x : UrlReading U E} → UrlReadingLaws U E x → (taken : Bool) (q : Quote) (u w : U) (c : StyleClass) (b : ℕ) (t : List (StyleEvent E)) → x.AreAlike u w
    → refuses_quoted x taken q u c b ≡ None → emits_quoted x taken q w c b t ≡ emits_quoted x taken q u c b t
quoted-tells l true q u w c b t a n = ap (λ es. told_in_url es t) (l.emits u w b a n)
quoted-tells l false DoubleQuote u w class.QuotationMark b t a n = refl
quoted-tells l false SingleQuote u w class.Apostrophe b t a n = refl
quoted-tells l false DoubleQuote u w class.Newline b t a n = refl
quoted-tells l false SingleQuote u w class.Newline b t a n = refl
quoted-tells l false DoubleQuote u w c b t a n = ap (λ es. told_in_url es t) (l.emits u w b a n)
quoted-tells l false SingleQuote u w c b t a n = ap (λ es. told_in_url es t) (l.emits u w b a n)

ended-tells : {U E : Type 0} {x : UrlReading U E} → UrlReadingLaws U E x → (u w : U) (c : StyleClass) (b : ℕ) (t : List (StyleEvent E)) → x.AreAlike u w
    → emits_ended x w c b t ≡ emits_ended x u c b t
ended-tells l u w class.RightParenthesis b t a = ap (λ es. UrlEnds ∷ told_in_url es t) (l.ends u w a)
ended-tells l u w c b t a = refl

url-tells : {U E : Type 0} {x : UrlReading U E} → UrlReadingLaws U E x → (f : UrlForm) (u w : U) (c : StyleClass) (b : ℕ) (t : List (StyleEvent E)) → x.AreAlike u w
    → refuses_in_url x f u c b ≡ None → emits_in_url x f w c b t ≡ emits_in_url x f u c b t
url-tells l Fresh u w c b t a n = fresh-tells l u w c b t a n
url-tells l Bare u w c b t a n = bare-tells l u w c b t a n
url-tells l (Quoted q e) u w c b t a n = quoted-tells l (is_taken_in_style e b) q u w c b t a n
url-tells l Ended u w c b t a n = ended-tells l u w c b t a

unbegun-tells : {U E : Type 0} {x : UrlReading U E} → UrlReadingLaws U E x → (u w : U) (c : StyleClass) (b : ℕ) (t : List (StyleEvent E)) → x.AreAlike u w
    → refuses_bare x u c b ≡ None → emits_fresh x w c b t ≡ emits_bare x u c b t
unbegun-tells l u w class.QuotationMark b t a n = absurd (some _ n)
unbegun-tells l u w class.Apostrophe b t a n = absurd (some _ n)
unbegun-tells l u w c b t a n = bare-tells l u w c b t a n

unbegun-ended-tells : {U E : Type 0} {x : UrlReading U E} → UrlReadingLaws U E x → (u w : U) (c : StyleClass) (b : ℕ) (t : List (StyleEvent E)) → x.AreAlike u w
    → refuses_ended c ≡ None → emits_fresh x w c b t ≡ emits_ended x u c b t
unbegun-ended-tells l u w class.Blank b t a n = refl
unbegun-ended-tells l u w class.Newline b t a n = refl
unbegun-ended-tells l u w class.RightParenthesis b t a n = ap (λ es. UrlEnds ∷ told_in_url es t) (l.ends u w a)
unbegun-ended-tells l u w c b t a n = absurd (some _ n)

class-tells : {U E : Type 0} {x : UrlReading U E} → UrlReadingLaws U E x → (v w : Style U) (c : StyleClass) (b : ℕ) (t : List (StyleEvent E)) → StylesAlike x v w
    → style_refuses_class x v c b ≡ None → style_emits_class x w c b t ≡ style_emits_class x v c b t
class-tells l (Out s) (Out r) c b t (outside a) n = out-tells s r c b t a n
class-tells l (InUrl f u) (InUrl g w) c b t (in_url h a) n = url-tells l f u w c b t a n
class-tells l (Out s) (InUrl g w) c b t a n = elim a [ ]
class-tells l (InUrl f u) (Out r) c b t a n = elim a [ ]
class-tells l (InUrl Bare u) (InUrl Fresh w) c b t (unbegun a) n = unbegun-tells l u w c b t a n
class-tells l (InUrl Ended u) (InUrl Fresh w) c b t (unbegun_ended a) n = unbegun-ended-tells l u w c b t a n

-- where a byte leads, outside url tokens: from one state both come to one
between-goes : {U E : Type 0} (x : UrlReading U E) (k : Bool) (c : StyleClass) (b : ℕ) → StylesAlike x (next_between k c b) (next_between k c b)
between-goes x k class.Blank b = outside (the_same _ tt)
between-goes x k c b = outside (the_same _ tt)

word-goes : {U E : Type 0} {x : UrlReading U E} → UrlReadingLaws U E x → (w : UrlWord) (e : StyleEscape) (c : StyleClass) (b : ℕ) → StylesAlike x (next_style_word x w e c b) (next_style_word x w e c b)
word-goes l w AfterBackslash c b = outside (the_same _ tt)
word-goes l SpellsUrl NoEscape class.LeftParenthesis b = in_url Fresh l.begins
word-goes l SpellsUrl (HexDigits k) class.LeftParenthesis b = in_url Fresh l.begins
word-goes l SpellsUrl AfterReturn class.LeftParenthesis b = in_url Fresh l.begins
word-goes l w NoEscape class.Blank b = outside (the_same _ tt)
word-goes l w NoEscape c b = outside (the_same _ tt)
word-goes l w (HexDigits k) class.Blank b = outside (the_same _ tt)
word-goes l w (HexDigits k) c b = outside (the_same _ tt)
word-goes l w AfterReturn class.Blank b = outside (the_same _ tt)
word-goes l w AfterReturn c b = outside (the_same _ tt)

solidus-goes : {U E : Type 0} (x : UrlReading U E) (c : StyleClass) (b : ℕ) → StylesAlike x (next_solidus c b) (next_solidus c b)
solidus-goes x class.Asterisk b = outside (the_same _ tt)
solidus-goes x c b = outside (the_same _ tt)

comment-goes : {U E : Type 0} (x : UrlReading U E) (star : Bool) (c : StyleClass) → StylesAlike x (next_style_comment star c) (next_style_comment star c)
comment-goes x true class.Solidus = outside (the_same _ tt)
comment-goes x true c = outside (the_same _ tt)
comment-goes x false class.Solidus = outside (the_same _ tt)
comment-goes x false c = outside (the_same _ tt)

string-goes : {U E : Type 0} (x : UrlReading U E) (taken : Bool) (q : Quote) (e : StyleEscape) (c : StyleClass) (b : ℕ) → StylesAlike x (next_style_string taken q e c b) (next_style_string taken q e c b)
string-goes x true q e c b = outside (the_same _ tt)
string-goes x false DoubleQuote e class.Blank b = outside (the_same _ tt)
string-goes x false DoubleQuote e c b = outside (the_same _ tt)
string-goes x false SingleQuote e class.Blank b = outside (the_same _ tt)
string-goes x false SingleQuote e c b = outside (the_same _ tt)

bad-goes : {U E : Type 0} (x : UrlReading U E) (c : StyleClass) → StylesAlike x (next_bad c) (next_bad c)
bad-goes x class.Blank = outside (the_same _ tt)
bad-goes x c = outside (the_same _ tt)

same-goes : {U E : Type 0} {x : UrlReading U E} → UrlReadingLaws U E x → (s : Outside) (c : StyleClass) (b : ℕ) → IsOfPage s → StylesAlike x (next_out x s c b) (next_out x s c b)
same-goes {U} {E} {x} l (Between k) c b o = between-goes x k c b
same-goes {U} {E} {x} l AfterLessThan c b o = between-goes x false c b
same-goes l (Word w e) c b o = word-goes l w e c b
same-goes {U} {E} {x} l (AfterSolidus k) c b o = solidus-goes x c b
same-goes {U} {E} {x} l (Comment star) c b o = comment-goes x star c
same-goes {U} {E} {x} l (InString q e) c b o = string-goes x (is_taken_in_style e b) q e c b
same-goes {U} {E} {x} l BadUrl c b o = bad-goes x c
same-goes l (BehindHole solidus less) c b o = absurd o
same-goes l (SplitWord e) c b o = absurd o
same-goes l (SolidusAtCut k) c b o = absurd o
same-goes l LessThanAtCut c b o = absurd o
same-goes l StarAtCut c b o = absurd o

-- behind a hole, and in a word that has been split
hole-goes : {U E : Type 0} (x : UrlReading U E) (c : StyleClass) (b : ℕ) (solidus less : Bool) → refuses_out (BehindHole solidus less) c b ≡ None
    → StylesAlike x (next_split NoEscape c b) (next_between false c b)
hole-goes x class.WordByte b solidus less n = outside (split_word _ _)
hole-goes x class.ReverseSolidus b solidus less n = outside (split_word _ _)
hole-goes x c b solidus less n = outside (the_same _ tt)

hole-word-goes : {U E : Type 0} (x : UrlReading U E) (w : UrlWord) (c : StyleClass) (b : ℕ) (solidus less : Bool) → refuses_out (BehindHole solidus less) c b ≡ None
    → StylesAlike x (next_split NoEscape c b) (next_style_word x w NoEscape c b)
hole-word-goes x w class.WordByte b solidus less n = outside (split_word _ _)
hole-word-goes x w class.ReverseSolidus b solidus less n = outside (split_word _ _)
hole-word-goes x SpellsUrl class.LeftParenthesis b solidus less n = absurd (some _ n)
hole-word-goes x w c b solidus less n = outside (the_same _ tt)

split-word-goes : {U E : Type 0} (x : UrlReading U E) (w : UrlWord) (e : StyleEscape) (c : StyleClass) (b : ℕ) → refuses_out (SplitWord e) c b ≡ None
    → StylesAlike x (next_split e c b) (next_style_word x w e c b)
split-word-goes x w AfterBackslash c b n = outside (split_word _ _)
split-word-goes x w NoEscape c b n = hole-word-goes x w c b false false (unsplit c n)
  where
    unsplit : (c : StyleClass) → refuses_out (SplitWord NoEscape) c b ≡ None → refuses_out (BehindHole false false) c b ≡ None
    unsplit class.LeftParenthesis n = n
    unsplit c n = refl
split-word-goes x w (HexDigits k) class.WordByte b n = outside (split_word _ _)
split-word-goes x w (HexDigits k) class.ReverseSolidus b n = outside (split_word _ _)
split-word-goes x SpellsUrl (HexDigits k) class.LeftParenthesis b n = absurd (some _ n)
split-word-goes x w (HexDigits k) c b n = outside (the_same _ tt)
split-word-goes x w AfterReturn class.WordByte b n = outside (split_word _ _)
split-word-goes x w AfterReturn class.ReverseSolidus b n = outside (split_word _ _)
split-word-goes x SpellsUrl AfterReturn class.LeftParenthesis b n = absurd (some _ n)
split-word-goes x w AfterReturn c b n = outside (the_same _ tt)

star-goes : {U E : Type 0} (x : UrlReading U E) (star : Bool) (c : StyleClass) (b : ℕ) → refuses_out StarAtCut c b ≡ None → StylesAlike x (next_style_comment true c) (next_style_comment star c)
star-goes x true class.Solidus b n = outside (the_same _ tt)
star-goes x true c b n = outside (the_same _ tt)
star-goes x false class.Solidus b n = absurd (some _ n)
star-goes x false c b n = outside (the_same _ tt)

out-goes : {U E : Type 0} {x : UrlReading U E} → UrlReadingLaws U E x → (s r : Outside) (c : StyleClass) (b : ℕ) → AreAlikeOutside s r → refuses_out s c b ≡ None
    → StylesAlike x (next_out x s c b) (next_out x r c b)
out-goes l s r c b (the_same z o) n = same-goes l z c b o
out-goes {U} {E} {x} l s r c b (hole_between solidus less) n = hole-goes x c b solidus less n
out-goes {U} {E} {x} l s r c b (hole_less_than solidus less) n = hole-goes x c b solidus less n
out-goes {U} {E} {x} l s r c b (hole_word solidus less w) n = hole-word-goes x w c b solidus less n
out-goes {U} {E} {x} l s r c b (split_word w e) n = split-word-goes x w e c b n
out-goes {U} {E} {x} l s r c b (cut_solidus k) n = solidus-goes x c b
out-goes {U} {E} {x} l s r c b cut_less_than n = between-goes x false c b
out-goes {U} {E} {x} l s r c b (cut_star star) n = star-goes x star c b n

-- in a url token
bare-goes : {U E : Type 0} {x : UrlReading U E} → UrlReadingLaws U E x → (u w : U) (c : StyleClass) (b : ℕ) → x.AreAlike u w → refuses_bare x u c b ≡ None
    → StylesAlike x (next_bare x u c b) (next_bare x w c b)
bare-goes l u w class.Blank b a n = in_url Ended a
bare-goes l u w class.Newline b a n = in_url Ended a
bare-goes l u w class.RightParenthesis b a n = outside (the_same _ tt)
bare-goes l u w class.QuotationMark b a n = outside (the_same _ tt)
bare-goes l u w class.Apostrophe b a n = outside (the_same _ tt)
bare-goes l u w class.LeftParenthesis b a n = outside (the_same _ tt)
bare-goes l u w class.ReverseSolidus b a n = absurd (some _ n)
bare-goes l u w c b a n = in_url Bare (l.feeds u w b a n)

fresh-goes : {U E : Type 0} {x : UrlReading U E} → UrlReadingLaws U E x → (u w : U) (c : StyleClass) (b : ℕ) → x.AreAlike u w → refuses_fresh x u c b ≡ None
    → StylesAlike x (next_fresh x u c b) (next_fresh x w c b)
fresh-goes l u w class.Blank b a n = in_url Fresh a
fresh-goes l u w class.Newline b a n = in_url Fresh a
fresh-goes l u w class.QuotationMark b a n = in_url _ a
fresh-goes l u w class.Apostrophe b a n = in_url _ a
fresh-goes l u w c b a n = bare-goes l u w c b a n

quoted-goes : {U E : Type 0} {x : UrlReading U E} → UrlReadingLaws U E x → (taken : Bool) (q : Quote) (e : StyleEscape) (u w : U) (c : StyleClass) (b : ℕ) → x.AreAlike u w
    → refuses_quoted x taken q u c b ≡ None → StylesAlike x (next_quoted x taken q e u c b) (next_quoted x taken q e w c b)
quoted-goes l true q e u w c b a n = in_url _ (l.feeds u w b a n)
quoted-goes l false DoubleQuote e u w class.QuotationMark b a n = in_url Ended a
quoted-goes l false SingleQuote e u w class.Apostrophe b a n = in_url Ended a
quoted-goes l false DoubleQuote e u w class.Newline b a n = outside (the_same _ tt)
quoted-goes l false SingleQuote e u w class.Newline b a n = outside (the_same _ tt)
quoted-goes l false DoubleQuote e u w c b a n = in_url _ (l.feeds u w b a n)
quoted-goes l false SingleQuote e u w c b a n = in_url _ (l.feeds u w b a n)

ended-goes : {U E : Type 0} {x : UrlReading U E} (u w : U) (c : StyleClass) → x.AreAlike u w → StylesAlike x (next_ended u c) (next_ended w c)
ended-goes u w class.Blank a = in_url Ended a
ended-goes u w class.Newline a = in_url Ended a
ended-goes u w c a = outside (the_same _ tt)

url-goes : {U E : Type 0} {x : UrlReading U E} → UrlReadingLaws U E x → (f : UrlForm) (u w : U) (c : StyleClass) (b : ℕ) → x.AreAlike u w → refuses_in_url x f u c b ≡ None
    → StylesAlike x (next_in_url x f u c b) (next_in_url x f w c b)
url-goes l Fresh u w c b a n = fresh-goes l u w c b a n
url-goes l Bare u w c b a n = bare-goes l u w c b a n
url-goes l (Quoted q e) u w c b a n = quoted-goes l (is_taken_in_style e b) q e u w c b a n
url-goes l Ended u w c b a n = ended-goes u w c a

unbegun-goes : {U E : Type 0} {x : UrlReading U E} → UrlReadingLaws U E x → (u w : U) (c : StyleClass) (b : ℕ) → x.AreAlike u w → refuses_bare x u c b ≡ None
    → StylesAlike x (next_bare x u c b) (next_fresh x w c b)
unbegun-goes l u w class.Blank b a n = unbegun_ended a
unbegun-goes l u w class.Newline b a n = unbegun_ended a
unbegun-goes l u w class.QuotationMark b a n = absurd (some _ n)
unbegun-goes l u w class.Apostrophe b a n = absurd (some _ n)
unbegun-goes l u w c b a n = bare-goes l u w c b a n

unbegun-ended-goes : {U E : Type 0} {x : UrlReading U E} (u w : U) (c : StyleClass) (b : ℕ) → x.AreAlike u w → refuses_ended c ≡ None → StylesAlike x (next_ended u c) (next_fresh x w c b)
unbegun-ended-goes u w class.Blank b a n = unbegun_ended a
unbegun-ended-goes u w class.Newline b a n = unbegun_ended a
unbegun-ended-goes u w class.RightParenthesis b a n = outside (the_same _ tt)
unbegun-ended-goes u w c b a n = absurd (some _ n)

class-goes : {U E : Type 0} {x : UrlReading U E} → UrlReadingLaws U E x → (v w : Style U) (c : StyleClass) (b : ℕ) → StylesAlike x v w → style_refuses_class x v c b ≡ None
    → StylesAlike x (style_next x v c b) (style_next x w c b)
class-goes l (Out s) (Out r) c b (outside a) n = out-goes l s r c b a n
class-goes l (InUrl f u) (InUrl g w) c b (in_url h a) n = url-goes l f u w c b a n
class-goes l (Out s) (InUrl g w) c b a n = elim a [ ]
class-goes l (InUrl f u) (Out r) c b a n = elim a [ ]
class-goes l (InUrl Bare u) (InUrl Fresh w) c b (unbegun a) n = unbegun-goes l u w c b a n
class-goes l (InUrl Ended u) (InUrl Fresh w) c b (unbegun_ended a) n = unbegun-ended-goes u w c b a n

-- the end of the value
out-ends : {U E : Type 0} (x : UrlReading U E) (s r : Outside) (t : List (StyleEvent E)) → AreAlikeOutside s r → style_ends x (Out r) t ≡ style_ends x (Out s) t
out-ends x s r t (the_same z o) = refl
out-ends x s r t (hole_between solidus less) = refl
out-ends x s r t (hole_less_than solidus less) = refl
out-ends x s r t (hole_word solidus less w) = refl
out-ends x s r t (split_word w e) = refl
out-ends x s r t (cut_solidus k) = refl
out-ends x s r t cut_less_than = refl
out-ends x s r t (cut_star star) = refl

alike-ends : {U E : Type 0} {x : UrlReading U E} → UrlReadingLaws U E x → (v w : Style U) (t : List (StyleEvent E)) → StylesAlike x v w → style_ends x w t ≡ style_ends x v t
alike-ends {U} {E} {x} l (Out s) (Out r) t (outside a) = out-ends x s r t a
alike-ends l (InUrl f u) (InUrl g w) t (in_url h a) = ap (λ es. told_in_url es t) (l.ends u w a)
alike-ends l (Out s) (InUrl g w) t a = elim a [ ]
alike-ends l (InUrl f u) (Out r) t a = elim a [ ]
alike-ends l (InUrl Bare u) (InUrl Fresh w) t (unbegun a) = ap (λ es. told_in_url es t) (l.ends u w a)
alike-ends l (InUrl Ended u) (InUrl Fresh w) t (unbegun_ended a) = ap (λ es. told_in_url es t) (l.ends u w a)

-- the end of a node, where no escape is open
word-cut : (w : UrlWord) (e : StyleEscape) → refuses_in_escape e ≡ None → AreAlikeOutside (SplitWord NoEscape) (Word w e)
word-cut w NoEscape n = split_word w NoEscape
word-cut w AfterBackslash n = absurd (some _ n)
word-cut w (HexDigits k) n = absurd (some _ n)
word-cut w AfterReturn n = absurd (some _ n)

string-cut : (q : Quote) (e : StyleEscape) → refuses_in_escape e ≡ None → AreAlikeOutside (InString q NoEscape) (InString q e)
string-cut q NoEscape n = the_same _ tt
string-cut q AfterBackslash n = absurd (some _ n)
string-cut q (HexDigits k) n = absurd (some _ n)
string-cut q AfterReturn n = absurd (some _ n)

same-cut : (s : Outside) → IsOfPage s → refuses_cut_out s ≡ None → AreAlikeOutside (out_after_cut s) s
same-cut (Word w e) o n = word-cut w e n
same-cut (AfterSolidus k) o n = cut_solidus k
same-cut AfterLessThan o n = cut_less_than
same-cut (Comment true) o n = cut_star true
same-cut (Comment false) o n = the_same _ tt
same-cut (InString q e) o n = string-cut q e n
same-cut (Between k) o n = the_same _ tt
same-cut BadUrl o n = the_same _ tt
same-cut s o n = absurd o

out-cut : (s r : Outside) → AreAlikeOutside s r → refuses_cut_out s ≡ None → AreAlikeOutside (out_after_cut s) r
out-cut s r (the_same z o) n = same-cut z o n
out-cut s r (hole_between solidus less) n = hole_between solidus less
out-cut s r (hole_less_than solidus less) n = hole_less_than solidus less
out-cut s r (hole_word solidus less w) n = hole_word solidus less w
out-cut s r (split_word w e) n = word-cut w e n
out-cut s r (cut_solidus k) n = cut_solidus k
out-cut s r cut_less_than n = cut_less_than
out-cut s r (cut_star star) n = cut_star star

quoted-cut : {U E : Type 0} {x : UrlReading U E} → UrlReadingLaws U E x → (q : Quote) (e : StyleEscape) (u w : U) → x.AreAlike u w
    → refuses_cut_in_url x (Quoted q e) u ≡ None → StylesAlike x (InUrl (Quoted q NoEscape) (x.after_cut u)) (InUrl (Quoted q e) w)
quoted-cut l q NoEscape u w a n = in_url _ (l.after_cut u w a n)
quoted-cut l q AfterBackslash u w a n = absurd (some _ n)
quoted-cut l q (HexDigits k) u w a n = absurd (some _ n)
quoted-cut l q AfterReturn u w a n = absurd (some _ n)

alike-cut : {U E : Type 0} {x : UrlReading U E} → UrlReadingLaws U E x → (v w : Style U) → StylesAlike x v w → style_refuses_cut x v ≡ None → StylesAlike x (style_after_cut x v) w
alike-cut l (Out s) (Out r) (outside a) n = outside (out-cut s r a n)
alike-cut l (Out s) (InUrl g w) a n = elim a [ ]
alike-cut l (InUrl Fresh u) (Out r) a n = elim a [ ]
alike-cut l (InUrl Bare u) (Out r) a n = elim a [ ]
alike-cut l (InUrl (Quoted q e) u) (Out r) a n = elim a [ ]
alike-cut l (InUrl Ended u) (Out r) a n = elim a [ ]
alike-cut l (InUrl Fresh u) (InUrl g w) (in_url h a) n = in_url Fresh a
alike-cut l (InUrl Ended u) (InUrl g w) (in_url h a) n = in_url Ended a
alike-cut l (InUrl Bare u) (InUrl g w) (in_url h a) n = in_url Bare (l.after_cut u w a n)
alike-cut l (InUrl (Quoted q e) u) (InUrl g w) (in_url h a) n = quoted-cut l q e u w a n
alike-cut l (InUrl Bare u) (InUrl Fresh w) (unbegun a) n = unbegun (l.after_cut u w a n)
alike-cut l (InUrl Ended u) (InUrl Fresh w) (unbegun_ended a) n = unbegun_ended a

-- what is pending before a hole
alike-settles : {U E : Type 0} {x : UrlReading U E} (v w : Style U) (t : List (StyleEvent E)) → StylesAlike x v w → style_emits_settled w t ≡ style_emits_settled v t
alike-settles (Out s) (Out r) t (outside (the_same z o)) = refl
alike-settles (Out s) (Out r) t (outside (hole_between solidus less)) = refl
alike-settles (Out s) (Out r) t (outside (hole_less_than solidus less)) = refl
alike-settles (Out s) (Out r) t (outside (hole_word solidus less w)) = refl
alike-settles (Out s) (Out r) t (outside (split_word w e)) = refl
alike-settles (Out s) (Out r) t (outside (cut_solidus k)) = refl
alike-settles (Out s) (Out r) t (outside cut_less_than) = refl
alike-settles (Out s) (Out r) t (outside (cut_star star)) = refl
alike-settles (Out s) (InUrl g w) t a = elim a [ ]
alike-settles (InUrl f u) (Out r) t a = elim a [ ]
alike-settles (InUrl f u) (InUrl g w) t (in_url h a) = refl
alike-settles (InUrl Bare u) (InUrl Fresh w) t (unbegun a) = refl
alike-settles (InUrl Ended u) (InUrl Fresh w) t (unbegun_ended a) = refl

-- the mark of a hole
out-marks : (s r : Outside) → AreAlikeOutside s r → out_has_mark r ≡ out_has_mark s
out-marks s r (the_same z o) = refl
out-marks s r (hole_between solidus less) = refl
out-marks s r (hole_less_than solidus less) = refl
out-marks s r (hole_word solidus less w) = refl
out-marks s r (split_word w e) = refl
out-marks s r (cut_solidus k) = refl
out-marks s r cut_less_than = refl
out-marks s r (cut_star star) = refl

alike-marks : {U E : Type 0} (x : UrlReading U E) (v w : Style U) → StylesAlike x v w → has_mark w ≡ has_mark v
alike-marks x (Out s) (Out r) (outside a) = out-marks s r a
alike-marks x (Out s) (InUrl g w) a = elim a [ ]
alike-marks x (InUrl f u) (Out r) a = elim a [ ]
alike-marks x (InUrl f u) (InUrl g w) a = refl

-- a hole: outside url tokens
run-behind : {U E : Type 0} (x : UrlReading U E) (before : Outside) (z : Outside) (solidus less : Bool) → InRun z → StylesAlike x (Out (BehindHole solidus less)) (style_behind x (Out before) (Out z))
run-behind x before (Between k) solidus less h = outside (hole_between solidus less)
run-behind x before AfterLessThan solidus less h = outside (hole_less_than solidus less)
run-behind x before (Word w NoEscape) solidus less h = outside (hole_word solidus less w)
run-behind x before (Word w AfterBackslash) solidus less h = absurd h
run-behind x before (Word w (HexDigits k)) solidus less h = absurd h
run-behind x before (Word w AfterReturn) solidus less h = absurd h
run-behind x before (AfterSolidus k) solidus less h = absurd h
run-behind x before (Comment star) solidus less h = absurd h
run-behind x before (InString q e) solidus less h = absurd h
run-behind x before BadUrl solidus less h = absurd h
run-behind x before (BehindHole s l) solidus less h = absurd h
run-behind x before (SplitWord e) solidus less h = absurd h
run-behind x before (SolidusAtCut k) solidus less h = absurd h
run-behind x before LessThanAtCut solidus less h = absurd h
run-behind x before StarAtCut solidus less h = absurd h

string-behind : {U E : Type 0} (x : UrlReading U E) (q : Quote) (z : Outside) → z ≡ InString q NoEscape
    → StylesAlike x (Out (InString q NoEscape)) (style_behind x (Out (InString q NoEscape)) (Out z))
string-behind x q z e = subst (λ (y : Outside). StylesAlike x (Out (InString q NoEscape)) (style_behind x (Out (InString q NoEscape)) (Out y))) (sym e) (outside (the_same _ tt))

star-behind : {U E : Type 0} (x : UrlReading U E) (star to : Bool) (z : Outside) → z ≡ Comment to → StylesAlike x (Out StarAtCut) (style_behind x (Out (Comment star)) (Out z))
star-behind x star to z e = subst (λ (y : Outside). StylesAlike x (Out StarAtCut) (style_behind x (Out (Comment star)) (Out y))) (sym e) (outside (cut_star to))

comment-behind : {U E : Type 0} (x : UrlReading U E) (z : Outside) → z ≡ Comment false → StylesAlike x (Out (Comment false)) (style_behind x (Out (Comment false)) (Out z))
comment-behind x z e = subst (λ (y : Outside). StylesAlike x (Out (Comment false)) (style_behind x (Out (Comment false)) (Out y))) (sym e) (outside (the_same _ tt))

same-behind : {U E : Type 0} (x : UrlReading U E) (s z : Outside) → LeadsPlainOutside (out_settled s) z → StylesAlike x (Out (out_after_hole s)) (style_behind x (Out (out_settled s)) (Out z))
same-behind x (Between k) z p = run-behind x (Between k) z false false p.1
same-behind x AfterLessThan z p = run-behind x AfterLessThan z false true p.1
same-behind x (Word w NoEscape) z p = run-behind x (Word w NoEscape) z false false p.1
same-behind x (Word w AfterBackslash) z p = absurd p.0
same-behind x (Word w (HexDigits k)) z p = absurd p.0
same-behind x (Word w AfterReturn) z p = absurd p.0
same-behind x (AfterSolidus k) z p = run-behind x (Between false) z true false p.1
same-behind x (Comment true) z (inl e) = star-behind x true false z e
same-behind x (Comment true) z (inr e) = star-behind x true true z e
same-behind x (Comment false) z (inl e) = comment-behind x z e
same-behind x (Comment false) z (inr e) = comment-behind x z e
same-behind x (InString q NoEscape) z p = string-behind x q z p
same-behind x (InString q AfterBackslash) z p = absurd p.0
same-behind x (InString q (HexDigits k)) z p = absurd p.0
same-behind x (InString q AfterReturn) z p = absurd p.0
same-behind x BadUrl z p = absurd p.0
same-behind x (BehindHole solidus less) z p = absurd p.0
same-behind x (SplitWord e) z p = absurd p.0
same-behind x (SolidusAtCut k) z p = run-behind x (Between false) z true false p.1
same-behind x LessThanAtCut z p = absurd p.0
same-behind x StarAtCut z p = absurd p.0

cut-star-behind : {U E : Type 0} (x : UrlReading U E) (star : Bool) (z : Outside) → LeadsPlainOutside (Comment star) z → StylesAlike x (Out StarAtCut) (style_behind x (Out (Comment star)) (Out z))
cut-star-behind x star z (inl e) = star-behind x star false z e
cut-star-behind x star z (inr e) = star-behind x star star z e

split-behind : {U E : Type 0} (x : UrlReading U E) (w : UrlWord) (e : StyleEscape) (z : Outside) → LeadsPlainOutside (Word w e) z
    → StylesAlike x (Out (BehindHole false false)) (style_behind x (Out (Word w e)) (Out z))
split-behind x w e z p = run-behind x (Word w e) z false false p.1

out-behind : {U E : Type 0} (x : UrlReading U E) (s r z : Outside) → AreAlikeOutside s r → LeadsPlainOutside (out_settled r) z
    → StylesAlike x (Out (out_after_hole s)) (style_behind x (Out (out_settled r)) (Out z))
out-behind x s r z (the_same y o) p = same-behind x y z p
out-behind x s r z (hole_between solidus less) p = run-behind x (Between false) z solidus less p.1
out-behind x s r z (hole_less_than solidus less) p = run-behind x AfterLessThan z solidus less p.1
out-behind x s r z (hole_word solidus less w) p = run-behind x (Word w NoEscape) z solidus less p.1
out-behind x s r z (split_word w e) p = split-behind x w e z p
out-behind x s r z (cut_solidus k) p = run-behind x (Between false) z true false p.1
out-behind x s r z cut_less_than p = run-behind x AfterLessThan z false true p.1
out-behind x s r z (cut_star star) p = cut-star-behind x star z p

-- and in a url token
form-behind : {U E : Type 0} {x : UrlReading U E} (f g : UrlForm) {u w : U} → g ≡ f → x.AreAlike u w → StylesAlike x (InUrl f u) (InUrl g w)
form-behind {U} {E} {x} f g {u} {w} e a = subst (λ (h : UrlForm). StylesAlike x (InUrl f u) (InUrl h w)) (sym e) (in_url f a)

fresh-behind : {U E : Type 0} {x : UrlReading U E} (g : UrlForm) {u w : U} → LeadsPlainForm Fresh g → x.AreAlike u w → StylesAlike x (InUrl Bare u) (InUrl g w)
fresh-behind {U} {E} {x} g {u} {w} (inl e) a = subst (λ (h : UrlForm). StylesAlike x (InUrl Bare u) (InUrl h w)) (sym e) (unbegun a)
fresh-behind g (inr e) a = form-behind Bare g e a

url-behind : {U E : Type 0} {x : UrlReading U E} → UrlReadingLaws U E x → (f g : UrlForm) (u w z : U) → x.AreAlike u w → LeadsPlainForm f g × x.LeadsPlain w z
    → StylesAlike x (InUrl (form_after_hole f) (x.after_hole u)) (InUrl g (x.behind w z))
url-behind l Fresh g u w z a p = fresh-behind g p.0 (l.hole u w z a p.1)
url-behind l Bare g u w z a p = form-behind Bare g p.0 (l.hole u w z a p.1)
url-behind l (Quoted q NoEscape) g u w z a p = form-behind (Quoted q NoEscape) g p.0 (l.hole u w z a p.1)
url-behind l (Quoted q AfterBackslash) g u w z a p = absurd p.0
url-behind l (Quoted q (HexDigits k)) g u w z a p = absurd p.0
url-behind l (Quoted q AfterReturn) g u w z a p = absurd p.0
url-behind l Ended g u w z a p = absurd p.0

alike-hole : {U E : Type 0} {x : UrlReading U E} → UrlReadingLaws U E x → (v w after : Style U) → StylesAlike x v w → StyleLeadsPlain x (style_settled w) after
    → StylesAlike x (style_after_hole x v) (style_behind x (style_settled w) after)
alike-hole {U} {E} {x} l (Out s) (Out r) (Out z) (outside a) p = out-behind x s r z a p
alike-hole l (Out s) (InUrl g w) after a p = elim a [ ]
alike-hole l (InUrl f u) (Out r) after a p = elim a [ ]
alike-hole l (InUrl f u) (InUrl g w) (InUrl k z) (in_url h a) p = url-behind l f k u w z a p
alike-hole l (InUrl Bare u) (InUrl Fresh w) (InUrl g z) (unbegun a) p = fresh-behind g p.0 (l.hole u w z a p.1)
alike-hole l (InUrl Ended u) (InUrl Fresh w) (InUrl g z) (unbegun_ended a) p = fresh-behind g p.0 (l.hole u w z a p.1)
alike-hole l (Out s) (Out r) (InUrl g z) (outside a) p = absurd p
alike-hole l (InUrl f u) (InUrl g w) (Out z) (in_url h a) p = absurd p
alike-hole l (InUrl Bare u) (InUrl Fresh w) (Out z) (unbegun a) p = absurd p
alike-hole l (InUrl Ended u) (InUrl Fresh w) (Out z) (unbegun_ended a) p = absurd p

pub styles-keep : {U E : Type 0} {x : UrlReading U E} → UrlReadingLaws U E x → StyleLaws U E x
styles-keep {U} {E} {x} l = record {
  begins = outside (the_same _ tt);
  emits = λ v w b t a n. class-tells l v w (style_class b) b t a n;
  feeds = λ v w b a n. class-goes l v w (style_class b) b a n;
  ends = λ v w t a. alike-ends l v w t a;
  after_cut = λ v w a n. alike-cut l v w a n;
  settles = λ v w t a. alike-settles v w t a;
  marks = λ v w a. alike-marks x v w a;
  hole = λ v w after a p. alike-hole l v w after a p;
}
