-- The part that stands for two paths knows whether they have come apart.
use Rattle.std.proofs.Common.{◌≡◌, ◌≢◌, ℕ, suc, ◌==◌, ◌&&◌, ◌||◌, Bool, true, false, List, [], ◌∷◌, Option, Some, None, refl, sym, ap, ◌∙◌, subst, if◌then◌else◌}
use Rattle.std.specs.Prelude.{⊤, not, option_map}
use Rattle.std.specs.Char.{to_ascii_lowercase}
use Rattle.std.proofs.lemmas.Bool.{eq-eqb}
use Rattle.url_lexer.specs.Classes.{url_class_of}
use Rattle.url_lexer.specs.ClashesAreJoined.{ClashesAreJoined, joined_again, joined_over}
use Rattle.url_lexer.specs.Parts.{UrlPart, UrlStart, UrlOpen, UrlOpenhole, UrlPrequery, UrlQuery, UrlBad, next_part, part_behind_scheme}
use Rattle.url_lexer.specs.Prefixes.{Prefix, Off, Javascript, Vbscript, DataScheme, Differs, longer, prefix_of_first, prefix_with_letter, next_prefix, is_whole_word, same_url_prefix, joined_prefix}
use Rattle.url_lexer.specs.TwoPaths.{are_apart, part_after, is_open, came_apart, joined_part}
use Rattle.url_lexer.specs.declared.class.UrlClass.{UrlClass}
use Rattle.url_lexer.specs.declared.class.UrlClass.TheVariants as class

-- prefixes
abbrev differs : Prefix → Bool
differs Off = false
differs (Javascript n) = false
differs (Vbscript n) = false
differs (DataScheme n) = false
differs Differs = true

first-by : (x y z : Bool) → differs (if x then Javascript 1 else (if y then Vbscript 1 else (if z then DataScheme 1 else Off))) ≡ false
first-by true y z = refl
first-by false true z = refl
first-by false false true = refl
first-by false false false = refl

first-not : (b : ℕ) → differs (prefix_of_first b) ≡ false
first-not b = first-by (to_ascii_lowercase b == 106) (to_ascii_lowercase b == 118) (to_ascii_lowercase b == 100)

longer-not : (k : Bool) (p : Prefix) → differs p ≡ false → differs (longer k p) ≡ false
longer-not true p e = e
longer-not false p e = refl

letter-not : (x : Prefix) (b : ℕ) → differs x ≡ false → differs (prefix_with_letter x b) ≡ false
letter-not Off b e = refl
letter-not (Javascript n) b e = longer-not _ (Javascript (suc n)) refl
letter-not (Vbscript n) b e = longer-not _ (Vbscript (suc n)) refl
letter-not (DataScheme n) b e = longer-not _ (DataScheme (suc n)) refl
letter-not Differs b e = cc

next-not : (x : Prefix) (c : UrlClass) (b : ℕ) → differs x ≡ false → differs (next_prefix x c b) ≡ false
next-not x class.TabOrNewline b e = e
next-not x _ b e = letter-not x b e

differs-stays : (c : UrlClass) (b : ℕ) → next_prefix Differs c b ≡ Differs
differs-stays class.TabOrNewline b = refl
differs-stays _ b = refl

same-self : (x : Prefix) → same_url_prefix x x ≡ true
same-self Off = refl
same-self (Javascript n) = eq-eqb n n refl
same-self (Vbscript n) = eq-eqb n n refl
same-self (DataScheme n) = eq-eqb n n refl
same-self Differs = refl

joined-self : (x : Prefix) → joined_prefix x x ≡ x
joined-self x = ap (λ (k : Bool). if k then x else Differs) (same-self x)

joined-differs : (x : Prefix) → joined_prefix x Differs ≡ Differs
joined-differs Off = refl
joined-differs (Javascript n) = refl
joined-differs (Vbscript n) = refl
joined-differs (DataScheme n) = refl
joined-differs Differs = refl

if-same : (k : Bool) → (if k then Differs else Differs) ≡ Differs
if-same true = refl
if-same false = refl

once-by : (k : Bool) (x : Prefix) → (if k then x else Differs) ≡ (if not k then Differs else x)
once-by true x = refl
once-by false x = refl

joined-once : (x y : Prefix) → joined_prefix x y ≡ (if not (same_url_prefix x y) then Differs else x)
joined-once x y = once-by (same_url_prefix x y) x

twice-by : (k : Bool) (x : Prefix) → joined_prefix x (if k then x else Differs) ≡ (if not k then Differs else x)
twice-by true x = joined-self x
twice-by false x = joined-differs x

joined-twice : (x y : Prefix) → joined_prefix x (joined_prefix x y) ≡ (if not (same_url_prefix x y) then Differs else x)
joined-twice x y = twice-by (same_url_prefix x y) x

prefix-step : (e : Bool) (x : Prefix) (c : UrlClass) (b : ℕ) (y : Prefix)
    → joined_prefix (next_prefix (if e then Differs else x) c b) (joined_prefix (next_prefix x c b) y)
    ≡ (if e || not (same_url_prefix (next_prefix x c b) y) then Differs else next_prefix x c b)
prefix-step true x c b y =
    ap (λ (r : Prefix). joined_prefix r (joined_prefix (next_prefix x c b) y)) (differs-stays c b)
    ∙ if-same (same_url_prefix Differs (joined_prefix (next_prefix x c b) y))
prefix-step false x c b y = joined-twice (next_prefix x c b) y

-- parts
abbrev IsPast : UrlPart → Type 0
IsPast UrlStart = ⊥
IsPast (UrlOpen p) = ⊥
IsPast UrlOpenhole = ⊤
IsPast UrlPrequery = ⊤
IsPast UrlQuery = ⊤
IsPast UrlBad = ⊤

abbrev IsNotOpen : Option UrlPart → Type 0
IsNotOpen None = ⊤
IsNotOpen (Some UrlStart) = ⊤
IsNotOpen (Some (UrlOpen p)) = ⊥
IsNotOpen (Some UrlOpenhole) = ⊤
IsNotOpen (Some UrlPrequery) = ⊤
IsNotOpen (Some UrlQuery) = ⊤
IsNotOpen (Some UrlBad) = ⊤

past-goes : (p : UrlPart) (c : UrlClass) (b : ℕ) → IsPast p → IsPast (next_part p c b)
past-goes UrlStart c b i = absurd i
past-goes (UrlOpen p) c b i = absurd i
past-goes UrlOpenhole class.Slash b i = tt
past-goes UrlOpenhole class.QueryMark b i = tt
past-goes UrlOpenhole _ b i = tt
past-goes UrlPrequery class.QueryMark b i = tt
past-goes UrlPrequery _ b i = tt
past-goes UrlQuery c b i = tt
past-goes UrlBad c b i = tt

scheme-past : (x : Bool) → IsPast (part_behind_scheme x)
scheme-past true = tt
scheme-past false = tt

past-not-open : (p : UrlPart) → IsPast p → is_open p ≡ false
past-not-open UrlStart i = refl
past-not-open (UrlOpen p) i = absurd i
past-not-open UrlOpenhole i = refl
past-not-open UrlPrequery i = refl
past-not-open UrlQuery i = refl
past-not-open UrlBad i = refl

join-first : (p q : UrlPart) → IsPast p → IsNotOpen (joined_part p q)
join-first UrlStart q i = absurd i
join-first (UrlOpen p) q i = absurd i
join-first UrlOpenhole UrlOpenhole i = tt
join-first UrlOpenhole _ i = tt
join-first UrlPrequery UrlPrequery i = tt
join-first UrlPrequery _ i = tt
join-first UrlQuery UrlQuery i = tt
join-first UrlQuery _ i = tt
join-first UrlBad UrlBad i = tt
join-first UrlBad _ i = tt

join-second : (p q : UrlPart) → IsNotOpen (Some q) → IsNotOpen (joined_part p q)
join-second UrlStart UrlStart i = tt
join-second UrlStart (UrlOpen q) i = tt
join-second UrlStart _ i = tt
join-second (UrlOpen p) (UrlOpen q) i = absurd i
join-second (UrlOpen p) _ i = tt
join-second UrlOpenhole UrlOpenhole i = tt
join-second UrlOpenhole _ i = tt
join-second UrlPrequery UrlPrequery i = tt
join-second UrlPrequery _ i = tt
join-second UrlQuery UrlQuery i = tt
join-second UrlQuery _ i = tt
join-second UrlBad UrlBad i = tt
join-second UrlBad _ i = tt

past-some : (p : UrlPart) → IsPast p → IsNotOpen (Some p)
past-some UrlStart i = tt
past-some (UrlOpen p) i = absurd i
past-some UrlOpenhole i = tt
past-some UrlPrequery i = tt
past-some UrlQuery i = tt
past-some UrlBad i = tt

again-not-open : (before now : Option UrlPart) → IsNotOpen now → IsNotOpen (joined_again before now)
again-not-open None now n = n
again-not-open (Some p) None n = tt
again-not-open (Some p) (Some q) n = join-second p q n

-- what stands for two paths; the first argument says whether they were apart at an earlier byte
data Met : Bool → Option UrlPart → UrlPart → UrlPart → Type 0 where
  both_open : (d : Bool) (x y : Prefix) → differs x ≡ false → Met d (Some (UrlOpen (if d || not (same_url_prefix x y) then Differs else x))) (UrlOpen x) (UrlOpen y)
  both_start : Met false (Some UrlStart) UrlStart UrlStart
  first_start : (y : Prefix) → Met false None UrlStart (UrlOpen y)
  second_start : (x : Prefix) → differs x ≡ false → Met false None (UrlOpen x) UrlStart
  first_past : (d : Bool) (o : Option UrlPart) (p q : UrlPart) → IsPast p → IsNotOpen o → Met d o p q
  second_past : (d : Bool) (o : Option UrlPart) (p q : UrlPart) → IsPast q → IsNotOpen o → Met d o p q

abbrev MetOpen : Bool → Prefix → Prefix → Prefix → Type 0
MetOpen d x y r = Met d (Some (UrlOpen r)) (UrlOpen x) (UrlOpen y)

open-met : (d : Bool) (x y r : Prefix) → differs x ≡ false → r ≡ (if d || not (same_url_prefix x y) then Differs else x) → MetOpen d x y r
open-met d x y r h e = subst (MetOpen d x y) (sym e) (both_open d x y h)

abbrev Step : Bool → Option UrlPart → UrlPart → UrlPart → Type 0
Step d o p q = Met d (joined_again o (joined_part p q)) p q

first-past : (d : Bool) (o : Option UrlPart) (p q : UrlPart) → IsPast p → Step d o p q
first-past d o p q i = first_past d (joined_again o (joined_part p q)) p q i (again-not-open o (joined_part p q) (join-first p q i))

second-past : (d : Bool) (o : Option UrlPart) (p q : UrlPart) → IsPast q → Step d o p q
second-past d o p q i =
    second_past d (joined_again o (joined_part p q)) p q i (again-not-open o (joined_part p q) (join-second p q (past-some q i)))

open-step : (e : Bool) (x y : Prefix) (c : UrlClass) (b : ℕ) → differs x ≡ false
    → Step e (Some (next_part (UrlOpen (if e then Differs else x)) c b)) (next_part (UrlOpen x) c b) (next_part (UrlOpen y) c b)
open-step e x y class.Colon b h =
    first-past e (Some (next_part (UrlOpen (if e then Differs else x)) class.Colon b)) (part_behind_scheme (is_whole_word x)) (part_behind_scheme (is_whole_word y))
    (scheme-past (is_whole_word x))
open-step e x y class.Slash b h = first-past e (Some UrlPrequery) UrlPrequery UrlPrequery tt
open-step e x y class.QueryMark b h = first-past e (Some UrlQuery) UrlQuery UrlQuery tt
open-step e x y c b h =
    open-met e (next_prefix x c b) (next_prefix y c b)
    (joined_prefix (next_prefix (if e then Differs else x) c b) (joined_prefix (next_prefix x c b) (next_prefix y c b)))
    (next-not x c b h) (prefix-step e x c b (next_prefix y c b))

start-step : (c : UrlClass) (b : ℕ) → Step false (Some (next_part UrlStart c b)) (next_part UrlStart c b) (next_part UrlStart c b)
start-step class.TabOrNewline b = both_start
start-step class.ControlOrSpace b = both_start
start-step class.Colon b = first-past false (Some UrlPrequery) UrlPrequery UrlPrequery tt
start-step class.Slash b = first-past false (Some UrlPrequery) UrlPrequery UrlPrequery tt
start-step class.QueryMark b = first-past false (Some UrlQuery) UrlQuery UrlQuery tt
start-step _ b =
    let f = prefix_of_first b in
    open-met false f f (joined_prefix f (joined_prefix f f)) (first-not b) (joined-twice f f)

first-step : (y : Prefix) (c : UrlClass) (b : ℕ) → Step false None (next_part UrlStart c b) (next_part (UrlOpen y) c b)
first-step y class.TabOrNewline b = first_start y
first-step y class.ControlOrSpace b = first_start (prefix_with_letter y b)
first-step y class.Colon b = first-past false None UrlPrequery (part_behind_scheme (is_whole_word y)) tt
first-step y class.Slash b = first-past false None UrlPrequery UrlPrequery tt
first-step y class.QueryMark b = first-past false None UrlQuery UrlQuery tt
first-step y _ b =
    let f = prefix_of_first b in
    let r = prefix_with_letter y b in
    open-met false f r (joined_prefix f r) (first-not b) (joined-once f r)

second-step : (x : Prefix) (c : UrlClass) (b : ℕ) → differs x ≡ false → Step false None (next_part (UrlOpen x) c b) (next_part UrlStart c b)
second-step x class.TabOrNewline b h = second_start x h
second-step x class.ControlOrSpace b h = second_start (prefix_with_letter x b) (letter-not x b h)
second-step x class.Colon b h = second-past false None (part_behind_scheme (is_whole_word x)) UrlPrequery tt
second-step x class.Slash b h = second-past false None UrlPrequery UrlPrequery tt
second-step x class.QueryMark b h = second-past false None UrlQuery UrlQuery tt
second-step x _ b h =
    let f = prefix_of_first b in
    let r = prefix_with_letter x b in
    open-met false r f (joined_prefix r f) (letter-not x b h) (joined-once r f)

step : (d : Bool) (o : Option UrlPart) (p q : UrlPart) (c : UrlClass) (b : ℕ) → Met d o p q
    → Step (d || are_apart p q) (option_map (λ (r : UrlPart). next_part r c b) o) (next_part p c b) (next_part q c b)
step d o p q c b (both_open k x y h) = open-step (k || not (same_url_prefix x y)) x y c b h
step d o p q c b both_start = start-step c b
step d o p q c b (first_start y) = first-step y c b
step d o p q c b (second_start x h) = second-step x c b h
step d o p q c b (first_past k t r s i n) =
    first-past (k || are_apart r s) (option_map (λ (u : UrlPart). next_part u c b) t) (next_part r c b) (next_part s c b) (past-goes r c b i)
step d o p q c b (second_past k t r s i n) =
    second-past (k || are_apart r s) (option_map (λ (u : UrlPart). next_part u c b) t) (next_part r c b) (next_part s c b) (past-goes s c b i)

-- where the bytes end
abbrev told : Option UrlPart → Bool
told None = false
told (Some UrlStart) = false
told (Some (UrlOpen p)) = differs p
told (Some UrlOpenhole) = false
told (Some UrlPrequery) = false
told (Some UrlQuery) = false
told (Some UrlBad) = false

told-none : (o : Option UrlPart) → IsNotOpen o → told o ≡ false
told-none None n = refl
told-none (Some UrlStart) n = refl
told-none (Some (UrlOpen p)) n = absurd n
told-none (Some UrlOpenhole) n = refl
told-none (Some UrlPrequery) n = refl
told-none (Some UrlQuery) n = refl
told-none (Some UrlBad) n = refl

none-first : (z x y : Bool) → x ≡ false → (z && (x && y)) ≡ false
none-first true x y e = ap (λ (k : Bool). k && y) e
none-first false x y e = refl

and-false : (x : Bool) → (x && false) ≡ false
and-false true = refl
and-false false = refl

none-second : (z x y : Bool) → y ≡ false → (z && (x && y)) ≡ false
none-second true x y e = ap (λ (k : Bool). x && k) e ∙ and-false x
none-second false x y e = refl

end-open : (e : Bool) (x : Prefix) → differs x ≡ false → differs (if e then Differs else x) ≡ (e && (true && true))
end-open true x h = refl
end-open false x h = h

end-met : (d : Bool) (o : Option UrlPart) (p q : UrlPart) → Met d o p q → told o ≡ ((d || are_apart p q) && (is_open p && is_open q))
end-met d o p q (both_open k x y h) = end-open (k || not (same_url_prefix x y)) x h
end-met d o p q both_start = refl
end-met d o p q (first_start y) = refl
end-met d o p q (second_start x h) = refl
end-met d o p q (first_past k t r s i n) = told-none t n ∙ sym (none-first (k || are_apart r s) (is_open r) (is_open s) (past-not-open r i))
end-met d o p q (second_past k t r s i n) = told-none t n ∙ sym (none-second (k || are_apart r s) (is_open r) (is_open s) (past-not-open s i))

or-assoc : (x y z : Bool) → ((x || y) || z) ≡ (x || (y || z))
or-assoc true y z = refl
or-assoc false y z = refl

over : (bs : List ℕ) (d : Bool) (o : Option UrlPart) (p q : UrlPart) → Met d o p q
    → told (joined_over o p q bs) ≡ ((d || came_apart p q bs) && (is_open (part_after p bs) && is_open (part_after q bs)))
over [] d o p q m = end-met d o p q m
over (b ∷ bs) d o p q m =
    let c = url_class_of b in
    let r = next_part p c b in
    let s = next_part q c b in
    over bs (d || are_apart p q) (joined_again (option_map (λ (u : UrlPart). next_part u c b) o) (joined_part r s)) r s (step d o p q c b m)
    ∙ ap (λ (x : Bool). x && (is_open (part_after r bs) && is_open (part_after s bs))) (or-assoc d (are_apart p q) (came_apart r s bs))

-- where they meet first
not-differs : (x : Prefix) → UrlOpen x ≢ UrlOpen Differs → differs x ≡ false
not-differs Off n = refl
not-differs (Javascript k) n = refl
not-differs (Vbscript k) n = refl
not-differs (DataScheme k) n = refl
not-differs Differs n = absurd (n refl)

meets : (p q : UrlPart) → p ≢ UrlOpen Differs → Met false (joined_part p q) p q
meets UrlStart UrlStart n = both_start
meets UrlStart (UrlOpen y) n = first_start y
meets UrlStart UrlOpenhole n = second_past false None UrlStart UrlOpenhole tt tt
meets UrlStart UrlPrequery n = second_past false None UrlStart UrlPrequery tt tt
meets UrlStart UrlQuery n = second_past false None UrlStart UrlQuery tt tt
meets UrlStart UrlBad n = second_past false None UrlStart UrlBad tt tt
meets (UrlOpen x) UrlStart n = second_start x (not-differs x n)
meets (UrlOpen x) (UrlOpen y) n = open-met false x y (joined_prefix x y) (not-differs x n) (joined-once x y)
meets (UrlOpen x) UrlOpenhole n = second_past false None (UrlOpen x) UrlOpenhole tt tt
meets (UrlOpen x) UrlPrequery n = second_past false None (UrlOpen x) UrlPrequery tt tt
meets (UrlOpen x) UrlQuery n = second_past false None (UrlOpen x) UrlQuery tt tt
meets (UrlOpen x) UrlBad n = second_past false None (UrlOpen x) UrlBad tt tt
meets UrlOpenhole q n = first_past false (joined_part UrlOpenhole q) UrlOpenhole q tt (join-first UrlOpenhole q tt)
meets UrlPrequery q n = first_past false (joined_part UrlPrequery q) UrlPrequery q tt (join-first UrlPrequery q tt)
meets UrlQuery q n = first_past false (joined_part UrlQuery q) UrlQuery q tt (join-first UrlQuery q tt)
meets UrlBad q n = first_past false (joined_part UrlBad q) UrlBad q tt (join-first UrlBad q tt)

differs-is : (x : Prefix) → differs x ≡ true → x ≡ Differs
differs-is Differs e = refl
differs-is Off e = cc
differs-is (Javascript n) e = cc
differs-is (Vbscript n) e = cc
differs-is (DataScheme n) e = cc

told-is : (o : Option UrlPart) → told o ≡ true → o ≡ Some (UrlOpen Differs)
told-is None e = cc
told-is (Some UrlStart) e = cc
told-is (Some (UrlOpen x)) e = ap (λ (r : Prefix). Some (UrlOpen r)) (differs-is x e)
told-is (Some UrlOpenhole) e = cc
told-is (Some UrlPrequery) e = cc
told-is (Some UrlQuery) e = cc
told-is (Some UrlBad) e = cc

pub clashes-joined : ClashesAreJoined
clashes-joined p q since n =
    let o = joined_over (joined_part p q) p q since in
    let t = over since false (joined_part p q) p q (meets p q n) in
    (λ e. told-is o (t ∙ e), λ e. sym t ∙ ap told e)
