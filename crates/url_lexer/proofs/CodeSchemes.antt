-- What the beginning of a URL spells is what its scheme so far is.
use Rattle.std.proofs.Common.{◌≡◌, ℕ, zero, suc, Bool, true, false, ◌&&◌, ◌||◌, ◌==◌, codes, List, [], ◌∷◌, ◌++◌, Option, Some, None, refl, sym, ap, ◌∙◌, subst}
use Rattle.std.specs.Prelude.{⊤, take, is_none, bytes_eq, if◌then◌else◌}
use Rattle.std.specs.Char.{to_ascii_lowercase}
use Rattle.std.proofs.lemmas.Bool.{eqb-true, eq-eqb, or_from}
use Rattle.std.proofs.lemmas.List.{append_assoc, append-nil}
use Rattle.std.proofs.Math.Bool.{or-false}
use Rattle.url_lexer.specs.Classes.{url_class_of}
use Rattle.url_lexer.specs.CodeSchemes.{CodeIsBad, IsCode}
use Rattle.url_lexer.specs.Events.{Named, NoScheme, scheme_at_end}
use Rattle.url_lexer.specs.Parts.{UrlPart, UrlStart, UrlOpen, UrlPrequery, UrlQuery, UrlBad, next_part, part_behind_scheme}
use Rattle.url_lexer.specs.Prefixes.{Prefix, Off, Javascript, Vbscript, DataScheme, letter_behind, is_letter, longer, prefix_of_first, prefix_with_letter, is_whole_word}
use Rattle.url_lexer.specs.SchemeOf.{scheme_of, told_name}
use Rattle.url_lexer.specs.Schemes.{UrlScheme, SchemeAhead, SchemeSoFar, SchemeIs, SchemeAbsent, SchemeUnknown, next_scheme, with_letter, is_code_scheme}
use Rattle.url_lexer.specs.States.{Url, url_start, feed_url, feed_all}
use Rattle.url_lexer.specs.declared.class.UrlClass.{UrlClass}
use Rattle.url_lexer.specs.declared.class.UrlClass.TheVariants as class
use Rattle.url_lexer.proofs.Reading.{scheme-read}

abbrev javascript : List ℕ
javascript = codes "javascript"

abbrev vbscript : List ℕ
vbscript = codes "vbscript"

abbrev data_word : List ℕ
data_word = codes "data"

-- the words behind their first letters
abbrev avascript : List ℕ
avascript = codes "avascript"

abbrev bscript : List ℕ
bscript = codes "bscript"

abbrev ata : List ℕ
ata = codes "ata"

-- a word, its first letters, and one letter more
and-none : (a b : Bool) → b ≡ false → (a && b) ≡ false
and-none true b e = e
and-none false b e = refl

and-some : (a b : Bool) → a ≡ true → (a && b) ≡ b
and-some true b e = refl
and-some false b e = cc

not-both : (x : Bool) → x ≡ true → x ≡ false → ⊥
not-both x h e = cc

unequal-by : (a b : ℕ) (x : Bool) → (b == a) ≡ x → (a == b) ≡ false → (b == a) ≡ false
unequal-by a b true h e = absurd (not-both (a == b) (eq-eqb a b (sym (eqb-true b a h))) e)
unequal-by a b false h e = h

unequal : (a b : ℕ) → (a == b) ≡ false → (b == a) ≡ false
unequal a b e = unequal-by a b (b == a) refl e

no-word : (w : List ℕ) (n b : ℕ) (r : List ℕ) → is_letter (letter_behind w n) b ≡ false → bytes_eq ((take n w ++ to_ascii_lowercase b ∷ []) ++ r) w ≡ false
no-word [] zero b r e = refl
no-word [] (suc n) b r e = refl
no-word (y ∷ ys) zero b r e = ap (λ (x : Bool). x && bytes_eq r ys) (unequal y (to_ascii_lowercase b) e)
no-word (y ∷ ys) (suc n) b r e = and-none (y == y) _ (no-word ys n b r e)

longer-word : (w : List ℕ) (n b : ℕ) → is_letter (letter_behind w n) b ≡ true → take n w ++ to_ascii_lowercase b ∷ [] ≡ take (suc n) w
longer-word [] n b e = cc
longer-word (y ∷ ys) zero b e = ap (λ (x : ℕ). x ∷ []) (sym (eqb-true y (to_ascii_lowercase b) e))
longer-word (y ∷ ys) (suc n) b e = ap (λ (t : List ℕ). y ∷ t) (longer-word ys n b e)

whole-word : (w : List ℕ) (n : ℕ) → bytes_eq (take n w) w ≡ is_none (letter_behind w n)
whole-word [] zero = refl
whole-word [] (suc n) = refl
whole-word (y ∷ ys) zero = refl
whole-word (y ∷ ys) (suc n) = and-some (y == y) _ (eq-eqb y y refl) ∙ whole-word ys n

-- what a prefix says of the letters
abbrev NeverCode : List ℕ → Type 0
NeverCode l = (r : List ℕ) → is_code_scheme (l ++ r) ≡ false

data Spells : Prefix → List ℕ → Type 0 where
  off : (l : List ℕ) → NeverCode l → Spells Off l
  java : (n : ℕ) → Spells (Javascript (suc n)) (take (suc n) javascript)
  vb : (n : ℕ) → Spells (Vbscript (suc n)) (take (suc n) vbscript)
  data_ : (n : ℕ) → Spells (DataScheme (suc n)) (take (suc n) data_word)

is-java : (t : List ℕ) → is_code_scheme (106 ∷ t) ≡ bytes_eq (106 ∷ t) javascript
is-java t = or-false (bytes_eq (106 ∷ t) javascript)

is-vb : (t : List ℕ) → is_code_scheme (118 ∷ t) ≡ bytes_eq (118 ∷ t) vbscript
is-vb t = or-false (bytes_eq (118 ∷ t) vbscript)

is-data : (t : List ℕ) → is_code_scheme (100 ∷ t) ≡ bytes_eq (100 ∷ t) data_word
is-data t = refl

never-more : (l : List ℕ) (x : ℕ) → NeverCode l → NeverCode (l ++ x ∷ [])
never-more l x h r = ap is_code_scheme (append_assoc l (x ∷ []) r) ∙ h (x ∷ r)

java-more : (n b : ℕ) (x : Bool) → is_letter (letter_behind javascript (suc n)) b ≡ x → Spells (longer x (Javascript (suc (suc n)))) (with_letter (take (suc n) javascript) b)
java-more n b true e = subst (Spells (Javascript (suc (suc n)))) (sym (longer-word javascript (suc n) b e)) (java (suc n))
java-more n b false e = off (with_letter (take (suc n) javascript) b) (λ r. is-java ((take n avascript ++ to_ascii_lowercase b ∷ []) ++ r) ∙ no-word javascript (suc n) b r e)

vb-more : (n b : ℕ) (x : Bool) → is_letter (letter_behind vbscript (suc n)) b ≡ x → Spells (longer x (Vbscript (suc (suc n)))) (with_letter (take (suc n) vbscript) b)
vb-more n b true e = subst (Spells (Vbscript (suc (suc n)))) (sym (longer-word vbscript (suc n) b e)) (vb (suc n))
vb-more n b false e = off (with_letter (take (suc n) vbscript) b) (λ r. is-vb ((take n bscript ++ to_ascii_lowercase b ∷ []) ++ r) ∙ no-word vbscript (suc n) b r e)

data-more : (n b : ℕ) (x : Bool) → is_letter (letter_behind data_word (suc n)) b ≡ x → Spells (longer x (DataScheme (suc (suc n)))) (with_letter (take (suc n) data_word) b)
data-more n b true e = subst (Spells (DataScheme (suc (suc n)))) (sym (longer-word data_word (suc n) b e)) (data_ (suc n))
data-more n b false e = off (with_letter (take (suc n) data_word) b) (λ r. is-data ((take n ata ++ to_ascii_lowercase b ∷ []) ++ r) ∙ no-word data_word (suc n) b r e)

spells-more : (p : Prefix) (l : List ℕ) (b : ℕ) → Spells p l → Spells (prefix_with_letter p b) (with_letter l b)
spells-more p l b (off k h) = off (with_letter k b) (never-more k (to_ascii_lowercase b) h)
spells-more p l b (java n) = java-more n b (is_letter (letter_behind javascript (suc n)) b) refl
spells-more p l b (vb n) = vb-more n b (is_letter (letter_behind vbscript (suc n)) b) refl
spells-more p l b (data_ n) = data-more n b (is_letter (letter_behind data_word (suc n)) b) refl

-- the first letter
never-first : (x : ℕ) → (x == 106) ≡ false → (x == 118) ≡ false → (x == 100) ≡ false → NeverCode (x ∷ [])
never-first x e f g r =
    or_from ((x == 106) && bytes_eq r avascript) (((x == 118) && bytes_eq r bscript) || ((x == 100) && bytes_eq r ata))
    (ap (λ (y : Bool). y && bytes_eq r avascript) e)
    (or_from ((x == 118) && bytes_eq r bscript) ((x == 100) && bytes_eq r ata)
    (ap (λ (y : Bool). y && bytes_eq r bscript) f) (ap (λ (y : Bool). y && bytes_eq r ata) g))

first-by : (x : ℕ) (j v d : Bool) → (x == 106) ≡ j → (x == 118) ≡ v → (x == 100) ≡ d
    → Spells (if j then Javascript 1 else (if v then Vbscript 1 else (if d then DataScheme 1 else Off))) (x ∷ [])
first-by x true v d e f g = subst (λ (y : ℕ). Spells (Javascript 1) (y ∷ [])) (sym (eqb-true x 106 e)) (java 0)
first-by x false true d e f g = subst (λ (y : ℕ). Spells (Vbscript 1) (y ∷ [])) (sym (eqb-true x 118 f)) (vb 0)
first-by x false false true e f g = subst (λ (y : ℕ). Spells (DataScheme 1) (y ∷ [])) (sym (eqb-true x 100 g)) (data_ 0)
first-by x false false false e f g = off (x ∷ []) (never-first x e f g)

spells-first : (b : ℕ) → Spells (prefix_of_first b) (with_letter [] b)
spells-first b = let x = to_ascii_lowercase b in first-by x (x == 106) (x == 118) (x == 100) refl refl refl

-- a whole word is one whose letters are code
never-whole : (l : List ℕ) → NeverCode l → is_code_scheme l ≡ false
never-whole l h = subst (λ (k : List ℕ). is_code_scheme k ≡ false) (append-nil l) (h [])

whole-code : (p : Prefix) (l : List ℕ) → Spells p l → is_code_scheme l ≡ is_whole_word p
whole-code p l (off k h) = never-whole k h
whole-code p l (java n) = is-java (take n avascript) ∙ whole-word javascript (suc n)
whole-code p l (vb n) = is-vb (take n bscript) ∙ whole-word vbscript (suc n)
whole-code p l (data_ n) = is-data (take n ata) ∙ whole-word data_word (suc n)

-- part and scheme of a text without holes
abbrev IsPlainScheme : UrlScheme → Type 0
IsPlainScheme (SchemeIs l) = is_code_scheme l ≡ false
IsPlainScheme SchemeAbsent = ⊤
IsPlainScheme s = ⊥

data Go : UrlPart → UrlScheme → Type 0 where
  starts : Go UrlStart SchemeAhead
  opens : (p : Prefix) (l : List ℕ) → Spells p l → Go (UrlOpen p) (SchemeSoFar l)
  before_query : (s : UrlScheme) → IsPlainScheme s → Go UrlPrequery s
  in_query : (s : UrlScheme) → IsPlainScheme s → Go UrlQuery s
  is_bad : (l : List ℕ) → is_code_scheme l ≡ true → Go UrlBad (SchemeIs l)

plain-stays : (s : UrlScheme) (c : UrlClass) (b : ℕ) → IsPlainScheme s → IsPlainScheme (next_scheme s c b)
plain-stays (SchemeIs l) c b h = h
plain-stays SchemeAbsent c b h = tt
plain-stays SchemeAhead c b h = absurd h
plain-stays (SchemeSoFar l) c b h = absurd h
plain-stays SchemeUnknown c b h = absurd h

go-start : (c : UrlClass) (b : ℕ) → Go (next_part UrlStart c b) (next_scheme SchemeAhead c b)
go-start class.TabOrNewline b = starts
go-start class.ControlOrSpace b = starts
go-start class.Colon b = before_query (SchemeIs []) refl
go-start class.Slash b = before_query SchemeAbsent tt
go-start class.QueryMark b = in_query SchemeAbsent tt
go-start c b = opens (prefix_of_first b) (with_letter [] b) (spells-first b)

go-colon : (x : Bool) (l : List ℕ) → is_code_scheme l ≡ x → Go (part_behind_scheme x) (SchemeIs l)
go-colon true l e = is_bad l e
go-colon false l e = before_query (SchemeIs l) e

go-open : (p : Prefix) (l : List ℕ) (c : UrlClass) (b : ℕ) → Spells p l → Go (next_part (UrlOpen p) c b) (next_scheme (SchemeSoFar l) c b)
go-open p l class.Colon b h = go-colon (is_whole_word p) l (whole-code p l h)
go-open p l class.Slash b h = before_query SchemeAbsent tt
go-open p l class.QueryMark b h = in_query SchemeAbsent tt
go-open p l class.TabOrNewline b h = opens p l h
go-open p l c b h = opens (prefix_with_letter p b) (with_letter l b) (spells-more p l b h)

go-prequery : (s : UrlScheme) (c : UrlClass) (b : ℕ) → IsPlainScheme s → Go (next_part UrlPrequery c b) (next_scheme s c b)
go-prequery s class.QueryMark b h = in_query (next_scheme s class.QueryMark b) (plain-stays s class.QueryMark b h)
go-prequery s c b h = before_query (next_scheme s c b) (plain-stays s c b h)

go-byte : (p : UrlPart) (s : UrlScheme) (c : UrlClass) (b : ℕ) → Go p s → Go (next_part p c b) (next_scheme s c b)
go-byte p s c b starts = go-start c b
go-byte p s c b (opens q l h) = go-open q l c b h
go-byte p s c b (before_query r h) = go-prequery r c b h
go-byte p s c b (in_query r h) = in_query (next_scheme r c b) (plain-stays r c b h)
go-byte p s c b (is_bad l h) = is_bad l h

go-bytes : (bs : List ℕ) (u : Url) → Go u.part u.scheme → Go (feed_all u bs).part (feed_all u bs).scheme
go-bytes [] u g = g
go-bytes (b ∷ bs) u g = go-bytes bs (feed_url u b) (go-byte u.part u.scheme (url_class_of b) b g)

-- the two directions
code-name : (l : List ℕ) (o : Option (List ℕ)) → is_code_scheme l ≡ true → Named l ≡ told_name o → IsCode o
code-name l None h e = cc
code-name l (Some n) h e = let same : l ≡ n = cc in subst (λ (k : List ℕ). is_code_scheme k ≡ true) same h

no-code : (s : UrlScheme) (o : Option (List ℕ)) → IsPlainScheme s → scheme_at_end s ≡ told_name o → IsCode o → ⊥
no-code s None h e k = k
no-code (SchemeIs l) (Some n) h e k = let same : l ≡ n = cc in not-both (is_code_scheme n) k (subst (λ (m : List ℕ). is_code_scheme m ≡ false) same h)
no-code SchemeAbsent (Some n) h e k = cc
no-code SchemeAhead (Some n) h e k = absurd h
no-code (SchemeSoFar l) (Some n) h e k = absurd h
no-code SchemeUnknown (Some n) h e k = absurd h

no-name : (o : Option (List ℕ)) → NoScheme ≡ told_name o → IsCode o → ⊥
no-name None e k = k
no-name (Some n) e k = cc

bad-by : (p : UrlPart) (s : UrlScheme) (o : Option (List ℕ)) → Go p s → scheme_at_end s ≡ told_name o → p ≡ UrlBad → IsCode o
bad-by p s o starts e b = cc
bad-by p s o (opens q l h) e b = cc
bad-by p s o (before_query r h) e b = cc
bad-by p s o (in_query r h) e b = cc
bad-by p s o (is_bad l h) e b = code-name l o h e

code-by : (p : UrlPart) (s : UrlScheme) (o : Option (List ℕ)) → Go p s → scheme_at_end s ≡ told_name o → IsCode o → p ≡ UrlBad
code-by p s o starts e k = absurd (no-name o e k)
code-by p s o (opens q l h) e k = absurd (no-name o e k)
code-by p s o (before_query r h) e k = absurd (no-code r o h e k)
code-by p s o (in_query r h) e k = absurd (no-code r o h e k)
code-by p s o (is_bad l h) e k = refl

pub code-bad : CodeIsBad
code-bad bytes =
    let u = feed_all url_start bytes in
    let g = go-bytes bytes url_start starts in
    (bad-by u.part u.scheme (scheme_of bytes) g (scheme-read bytes), code-by u.part u.scheme (scheme_of bytes) g (scheme-read bytes))
