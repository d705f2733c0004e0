-- A text is in the query exactly behind a `?` or `#`.
use Rattle.std.proofs.Common.{◌≡◌, ◌≢◌, ◌⊎◌, inl, inr, ℕ, ◌==◌, ◌||◌, Bool, true, false, List, [], ◌∷◌, refl, sym, ap, ◌∙◌, if◌then◌else◌}
use Rattle.std.specs.Prelude.{⊤, nat_le}
use Rattle.std.specs.Char.{is_ascii_hexdigit}
use Rattle.std.specs.List.{list_any}
use Rattle.std.proofs.lemmas.Bool.{eqb-true, or_from}
use Rattle.url_lexer.specs.Classes.{url_class_of}
use Rattle.url_lexer.specs.Parts.{UrlPart, UrlStart, UrlOpen, UrlOpenhole, UrlPrequery, UrlQuery, UrlBad, next_part, part_behind_scheme}
use Rattle.url_lexer.specs.Prefixes.{is_whole_word}
use Rattle.url_lexer.specs.QueryIsRead.{QueryIsRead, begins_query}
use Rattle.url_lexer.specs.States.{Url, url_start, feed_url, feed_all}
use Rattle.url_lexer.specs.TwoPaths.{part_after}
use Rattle.url_lexer.specs.declared.class.UrlClass.{UrlClass}
use Rattle.url_lexer.specs.declared.class.UrlClass.TheVariants as class

abbrev is_query_mark : UrlClass → Bool
is_query_mark class.QueryMark = true
is_query_mark c = false

-- the class of a byte, by the tests that it is made of
mark-none : (tab blank colon slash mark percent digit : Bool) → mark ≡ false
    → is_query_mark (if tab then class.TabOrNewline else (if blank then class.ControlOrSpace else (if colon then class.Colon else (if slash then class.Slash
    else (if mark then class.QueryMark else (if percent then class.Percent else (if digit then class.Hexadecimal else class.Other))))))) ≡ false
mark-none true blank colon slash mark percent digit e = refl
mark-none false true colon slash mark percent digit e = refl
mark-none false false true slash mark percent digit e = refl
mark-none false false false true mark percent digit e = refl
mark-none false false false false true percent digit e = cc
mark-none false false false false false true digit e = refl
mark-none false false false false false false true e = refl
mark-none false false false false false false false e = refl

question-is : is_query_mark (url_class_of 63) ≡ true
unfolding url_class_of
question-is = refl

number-is : is_query_mark (url_class_of 35) ≡ true
unfolding url_class_of
number-is = refl

other-is : (b : ℕ) → (b == 63) ≡ false → (b == 35) ≡ false → is_query_mark (url_class_of b) ≡ false
unfolding url_class_of
other-is b e f =
    mark-none (b == 9 || (b == 10 || b == 13)) (nat_le b 32) (b == 58) (b == 47) (b == 63 || b == 35) (b == 37) (is_ascii_hexdigit b)
    (or_from (b == 63) (b == 35) e f)

mark-by : (b : ℕ) (x y : Bool) → (b == 63) ≡ x → (b == 35) ≡ y → is_query_mark (url_class_of b) ≡ (x || y)
mark-by b true y e f = ap (λ (i : ℕ). is_query_mark (url_class_of i)) (eqb-true b 63 e) ∙ question-is
mark-by b false true e f = ap (λ (i : ℕ). is_query_mark (url_class_of i)) (eqb-true b 35 f) ∙ number-is
mark-by b false false e f = other-is b e f

mark : (b : ℕ) → is_query_mark (url_class_of b) ≡ begins_query b
mark b = mark-by b (b == 63) (b == 35) refl refl

-- the part, apart from the rest of the state
fed-part : (u : Url) (bs : List ℕ) → (feed_all u bs).part ≡ part_after u.part bs
fed-part u [] = refl
fed-part u (b ∷ bs) = fed-part (feed_url u b) bs

query-stays : (bs : List ℕ) → part_after UrlQuery bs ≡ UrlQuery
query-stays [] = refl
query-stays (b ∷ bs) = query-stays bs

bad-stays : (bs : List ℕ) → part_after UrlBad bs ≡ UrlBad
bad-stays [] = refl
bad-stays (b ∷ bs) = bad-stays bs

abbrev IsBeforeQuery : UrlPart → Type 0
IsBeforeQuery UrlStart = ⊤
IsBeforeQuery (UrlOpen p) = ⊤
IsBeforeQuery UrlOpenhole = ⊤
IsBeforeQuery UrlPrequery = ⊤
IsBeforeQuery UrlQuery = ⊥
IsBeforeQuery UrlBad = ⊥

abbrev is_query : UrlPart → Bool
is_query UrlQuery = true
is_query p = false

not-query : (p : UrlPart) → IsBeforeQuery p → is_query p ≡ false
not-query UrlStart i = refl
not-query (UrlOpen p) i = refl
not-query UrlOpenhole i = refl
not-query UrlPrequery i = refl
not-query UrlQuery i = absurd i
not-query UrlBad i = absurd i

query-is : (p : UrlPart) → is_query p ≡ true → p ≡ UrlQuery
query-is UrlQuery e = refl
query-is _ e = cc

-- one byte
mark-goes : (p : UrlPart) (c : UrlClass) (b : ℕ) → IsBeforeQuery p → is_query_mark c ≡ true → next_part p c b ≡ UrlQuery
mark-goes UrlStart class.QueryMark b i e = refl
mark-goes (UrlOpen q) class.QueryMark b i e = refl
mark-goes UrlOpenhole class.QueryMark b i e = refl
mark-goes UrlPrequery class.QueryMark b i e = refl
mark-goes UrlQuery c b i e = absurd i
mark-goes UrlBad c b i e = absurd i
mark-goes _ _ b i e = cc

behind-scheme : (x : Bool) → IsBeforeQuery (part_behind_scheme x) ⊎ (part_behind_scheme x ≡ UrlBad)
behind-scheme true = inr refl
behind-scheme false = inl tt

other-goes : (p : UrlPart) (c : UrlClass) (b : ℕ) → IsBeforeQuery p → is_query_mark c ≡ false → IsBeforeQuery (next_part p c b) ⊎ (next_part p c b ≡ UrlBad)
other-goes UrlStart class.QueryMark b i e = cc
other-goes UrlStart _ b i e = inl tt
other-goes (UrlOpen q) class.QueryMark b i e = cc
other-goes (UrlOpen q) class.Colon b i e = behind-scheme (is_whole_word q)
other-goes (UrlOpen q) _ b i e = inl tt
other-goes UrlOpenhole class.QueryMark b i e = cc
other-goes UrlOpenhole _ b i e = inl tt
other-goes UrlPrequery class.QueryMark b i e = cc
other-goes UrlPrequery _ b i e = inl tt
other-goes UrlQuery c b i e = absurd i
other-goes UrlBad c b i e = absurd i

-- all bytes
abbrev ReadsQuery : List ℕ → Type 0
ReadsQuery bs = (p : UrlPart) → IsBeforeQuery p → part_after p bs ≢ UrlBad → is_query (part_after p bs) ≡ list_any begins_query bs

goes-on : (r : UrlPart) (bs : List ℕ) → IsBeforeQuery r ⊎ (r ≡ UrlBad) → part_after r bs ≢ UrlBad → ReadsQuery bs → is_query (part_after r bs) ≡ list_any begins_query bs
goes-on r bs (inl i) n h = h r i n
goes-on r bs (inr k) n h = absurd (n (ap (λ (q : UrlPart). part_after q bs) k ∙ bad-stays bs))

reads-byte : (b : ℕ) (bs : List ℕ) (p : UrlPart) (x : Bool) → begins_query b ≡ x → IsBeforeQuery p → part_after (next_part p (url_class_of b) b) bs ≢ UrlBad → ReadsQuery bs
    → is_query (part_after (next_part p (url_class_of b) b) bs) ≡ (x || list_any begins_query bs)
reads-byte b bs p true e i n h =
    ap (λ (q : UrlPart). is_query (part_after q bs)) (mark-goes p (url_class_of b) b i (mark b ∙ e)) ∙ ap is_query (query-stays bs)
reads-byte b bs p false e i n h = goes-on (next_part p (url_class_of b) b) bs (other-goes p (url_class_of b) b i (mark b ∙ e)) n h

reads : (bs : List ℕ) → ReadsQuery bs
reads [] p i n = not-query p i
reads (b ∷ bs) p i n = reads-byte b bs p (begins_query b) refl i n (reads bs)

pub query-read : QueryIsRead
query-read bytes n =
    let f = fed-part url_start bytes in
    let r = reads bytes UrlStart tt (λ e. n (f ∙ e)) in
    (λ e. sym r ∙ ap is_query (sym f ∙ e), λ e. f ∙ query-is (part_after UrlStart bytes) (r ∙ e))
