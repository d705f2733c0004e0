-- What the router finds is where a path leads.
use Rattle.std.proofs.Common.{ℕ, zero, suc, ◌+◌, ◌-◌, ◌<◌, ◌≤◌, ◌≡◌, Bool, true, false, cond, ◌==◌, ◌||◌, nat_lt, List, [], ◌∷◌, ◌++◌, length, drop, get_or, Option, Some, None, IsSome, IfSome, option_map, codes, arith, refl, ap, sym, ◌∙◌}
use Rattle.std.proofs.lemmas.Bool.Decides.{nat_tests}
use Rattle.std.specs.List.{list_all, list_any}
use Rattle.std.specs.Str.{bytes_eq, IsUtf8}
use Rattle.std.proofs.lemmas.Str.{lead_after_ascii}
use Rattle.matchit.specs.Rows.{RowsOf}
use Rattle.matchit.specs.Router.{RouteOf}
use Rattle.matchit.specs.Seek.{first, seek, step, has_slash}
use Rattle.matchit.proofs.OnLiterals.{matchit_on_literals}
use Rattle.page_http.specs.declared.routes.Route.{Route}
use Rattle.page_http.specs.declared.routes.Route.TheVariants as route
use Rattle.page_http.specs.Routes.{DestinationData, page, number, reload, after_prefix, is_segment_end, destination_named, destination_of}
use Rattle.page_http.specs.Rows.{rows}
use Rattle.page_http.proofs.Seeking.{either, seek_none, seek_byte, seek_text, seek_name}

-- the route of a destination
abbrev pub route_of : DestinationData → Route
route_of (page name) = route.Page
route_of number = route.Number
route_of reload = route.Reload

abbrev pub value_of : RouteOf Route → Route
value_of r = r.value

-- rows and destinations that fit
abbrev Fits : Option (RouteOf Route) → Option DestinationData → Type 0
Fits found destination = option_map value_of found ≡ option_map route_of destination

fits_name : (p : RouteOf Route) (b : Bool) (name : List ℕ) → p.value ≡ route.Page
    → Fits (cond b None (Some p)) (cond b None (Some (page name)))
fits_name p true name e = refl
fits_name p false name e = ap (λ (z : Route). Some z) e

fits_text : (r : RouteOf Route) (destination : DestinationData) (b : Bool) (other : Option DestinationData) → r.value ≡ route_of destination → other ≡ None
    → Fits (cond b (Some r) None) (cond b (Some destination) other)
fits_text r destination true other e none = ap (λ (z : Route). Some z) e
fits_text r destination false other e none = rw none refl

slashes : (path : List ℕ) → list_any is_segment_end path ≡ has_slash path
slashes [] = refl
slashes (b ∷ path) = rw (slashes path) (by_test (b == 47))
  where
    by_test : (t : Bool) → (t || has_slash path) ≡ cond t true (has_slash path)
    by_test true = refl
    by_test false = refl

other_byte : (x y b : ℕ) → (x == b) ≡ true → (y == x) ≡ false → (y == b) ≡ false
other_byte x y b t f = grind (arith, nat_tests, t, f)

-- behind `/p/`
behind_name : (p : RouteOf Route) (path : List ℕ) → p.value ≡ route.Page → get_or path 0 0 < 256
    → Fits (seek 0 ((256 ∷ [], p) ∷ []) path) (destination_named (Some path))
unfolding seek
behind_name p [] e byte = refl
behind_name p (b ∷ path) e byte = rw (seek_name p b path byte, slashes (b ∷ path)) (fits_name p (has_slash (b ∷ path)) (b ∷ path) e)

-- behind `/p`
behind_p : (p : RouteOf Route) (path : List ℕ) → p.value ≡ route.Page → get_or path 1 0 < 256
    → Fits (seek 0 ((47 ∷ 256 ∷ [], p) ∷ []) path) (destination_named (after_prefix (47 ∷ []) path))
unfolding seek
behind_p p [] e byte = refl
behind_p p (b ∷ path) e byte =
    rw (seek_byte ((47 ∷ 256 ∷ [], p) ∷ []) b path refl refl) (either (47 == b)
    (λ t. rw (t) (behind_name p path e byte))
    (λ f. rw (f, seek_none 0 path) refl))

-- behind the first slash
abbrev below : RouteOf Route → RouteOf Route → RouteOf Route → RowsOf (RouteOf Route)
below p r s = (112 ∷ 47 ∷ 256 ∷ [], p) ∷ (codes "reload", r) ∷ (codes "set", s) ∷ []

abbrev destination_below : List ℕ → Option DestinationData
destination_below path =
    cond (bytes_eq (codes "set") path) (Some number)
    (cond (bytes_eq (codes "reload") path) (Some reload)
    (destination_named (after_prefix (112 ∷ 47 ∷ []) path)))

behind_slash : (p r s : RouteOf Route) (path : List ℕ) → p.value ≡ route.Page → r.value ≡ route.Reload → s.value ≡ route.Number
    → get_or path 2 0 < 256 → Fits (seek 0 (below p r s) path) (destination_below path)
unfolding seek
behind_slash p r s [] ep er es byte = refl
behind_slash p r s (b ∷ path) ep er es byte =
    rw (seek_byte (below p r s) b path refl refl) (either (112 == b)
    (λ t.
    let g = other_byte 112 114 b t refl in
    let h = other_byte 112 115 b t refl in
    rw (t, g, h) (behind_p p path ep byte))
    (λ f. either (114 == b)
    (λ t.
    let h = other_byte 114 115 b t refl in
    rw (f, t, h, seek_text (codes "eload") r path refl) (fits_text r reload (bytes_eq (codes "eload") path) None er refl))
    (λ g. either (115 == b)
    (λ t. rw (f, g, t, seek_text (codes "et") s path refl) (fits_text s number (bytes_eq (codes "et") path) None es refl))
    (λ h. rw (f, g, h, seek_none 0 path) refl))))

abbrev all_rows : RouteOf Route → RouteOf Route → RouteOf Route → RowsOf (RouteOf Route)
all_rows p r s = (codes "/p/" ++ 256 ∷ [], p) ∷ (codes "/reload", r) ∷ (codes "/set", s) ∷ []

behind_all : (p r s : RouteOf Route) (path : List ℕ) → p.value ≡ route.Page → r.value ≡ route.Reload → s.value ≡ route.Number
    → get_or path 3 0 < 256 → Fits (seek 0 (all_rows p r s) path) (destination_of path)
unfolding seek
behind_all p r s [] ep er es byte = refl
behind_all p r s (b ∷ path) ep er es byte =
    rw (seek_byte (all_rows p r s) b path refl refl) (either (47 == b)
    (λ t. rw (t) (behind_slash p r s path ep er es byte))
    (λ f. rw (f, seek_none 0 path) refl))

-- the router's rows are these
pub routed : (path : List ℕ) → get_or path 3 0 < 256 → option_map value_of (first rows path) ≡ option_map route_of (destination_of path)
unfolding matchit_on_literals
routed path byte = behind_all _ _ _ path refl refl refl byte

pub route_found : (router : RowsOf (RouteOf Route)) (path : List ℕ) (m : RouteOf Route) → router ≡ rows
    → first router path ≡ Some m → get_or path 3 0 < 256 → option_map route_of (destination_of path) ≡ Some m.value
route_found router path m its found byte =
    sym (routed path byte) ∙ ap (λ (z : RowsOf (RouteOf Route)). option_map value_of (first z path)) (sym its)
    ∙ ap (λ (z : Option (RouteOf Route)). option_map value_of z) found

pub no_route_found : (router : RowsOf (RouteOf Route)) (path : List ℕ) → router ≡ rows
    → first router path ≡ None → get_or path 3 0 < 256 → destination_of path ≡ None
no_route_found router path its found byte =
    no_destination (destination_of path) (sym (routed path byte) ∙ ap (λ (z : RowsOf (RouteOf Route)). option_map value_of (first z path)) (sym its)
    ∙ ap (λ (z : Option (RouteOf Route)). option_map value_of z) found)
  where
    no_destination : (destination : Option DestinationData) → option_map route_of destination ≡ None → destination ≡ None
    no_destination None e = refl
    no_destination (Some p) e = cc

pub number_destination : (destination : Option DestinationData) → option_map route_of destination ≡ Some route.Number → destination ≡ Some number
number_destination None e = cc
number_destination (Some (page name)) e = cc
number_destination (Some number) e = refl
number_destination (Some reload) e = cc

pub reload_destination : (destination : Option DestinationData) → option_map route_of destination ≡ Some route.Reload → destination ≡ Some reload
reload_destination None e = cc
reload_destination (Some (page name)) e = cc
reload_destination (Some number) e = cc
reload_destination (Some reload) e = refl

-- the route of a page is that of what follows `/p/`
page_named : (rest : Option (List ℕ)) → option_map route_of (destination_named rest) ≡ Some route.Page
    → (name : List ℕ) × (rest ≡ Some name) × (destination_named rest ≡ Some (page name))
page_named None e = cc
page_named (Some []) e = cc
page_named (Some (b ∷ name)) e = by_slash (list_any is_segment_end (b ∷ name)) e
  where
    by_slash : (t : Bool) → option_map route_of (cond t None (Some (page (b ∷ name)))) ≡ Some route.Page
        → (n : List ℕ) × (Some (b ∷ name) ≡ Some n) × (cond t None (Some (page (b ∷ name))) ≡ Some (page n))
    by_slash true e = cc
    by_slash false e = (b ∷ name, refl, refl)

pub page_destination : (path : List ℕ) → option_map route_of (destination_of path) ≡ Some route.Page
    → (name : List ℕ) × (after_prefix (codes "/p/") path ≡ Some name) × (destination_of path ≡ Some (page name))
page_destination path e = by_tests (bytes_eq (codes "/set") path) (bytes_eq (codes "/reload") path) e
  where
    by_tests : (s r : Bool)
        → option_map route_of (cond s (Some number) (cond r (Some reload) (destination_named (after_prefix (codes "/p/") path)))) ≡ Some route.Page
        → (name : List ℕ) × (after_prefix (codes "/p/") path ≡ Some name)
        × (cond s (Some number) (cond r (Some reload) (destination_named (after_prefix (codes "/p/") path))) ≡ Some (page name))
    by_tests true r e = cc
    by_tests false true e = cc
    by_tests false false e = page_named (after_prefix (codes "/p/") path) e

pub has_prefix : (path : List ℕ) → option_map route_of (destination_of path) ≡ Some route.Page → IsSome (after_prefix (codes "/p/") path)
has_prefix path e = let p = page_destination path e in rw (p.1) refl

pub page_leads : (path name : List ℕ) → option_map route_of (destination_of path) ≡ Some route.Page
    → after_prefix (codes "/p/") path ≡ Some name → destination_of path ≡ Some (page name)
page_leads path name e after =
    let p = page_destination path e in
    p.2 ∙ ap (λ (z : Option (List ℕ)). option_map page z) (sym p.1 ∙ after)

pub prefix_is : (prefix path rest : List ℕ) → after_prefix prefix path ≡ Some rest → path ≡ prefix ++ rest
prefix_is [] path rest e = cc
prefix_is (x ∷ prefix) [] rest e = cc
prefix_is (x ∷ prefix) (b ∷ path) rest e =
    either (x == b)
    (λ t. let same : x ≡ b = grind (arith, nat_tests, t) in
    rw (same, prefix_is prefix path rest (rw t at e)) refl)
    (λ f. let none : None ≡ Some rest = rw f at e in cc)

pub some_prefix : (o : Option (List ℕ)) → IsSome o → (rest : List ℕ) × (o ≡ Some rest)
some_prefix None h = cc
some_prefix (Some rest) h = (rest, refl)

pub cuts_behind : (path : List ℕ) → IsUtf8 path → IsSome (after_prefix (codes "/p/") path)
    → (3 ≤ length path) × (3 < length path → 128 ≤ get_or path 3 0 → 192 ≤ get_or path 3 0)
cuts_behind path text h =
    let p = some_prefix (after_prefix (codes "/p/") path) h in
    let is = prefix_is (codes "/p/") path p.0 p.1 in
    let slash : get_or path 2 0 < 128 = rw is (omega arith) in
    (rw is (omega arith), λ inside high. lead_after_ascii path 2 text slash inside high)

pub rest_behind : (path rest : List ℕ) → IsSome (after_prefix (codes "/p/") path) → rest ≡ drop 3 path
    → after_prefix (codes "/p/") path ≡ Some rest
rest_behind path rest h cut =
    let p = some_prefix (after_prefix (codes "/p/") path) h in
    p.1 ∙ ap (λ (z : List ℕ). Some z) (sym (cut ∙ ap (drop 3) (prefix_is (codes "/p/") path p.0 p.1)))
