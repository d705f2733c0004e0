-- Where a script refuses none of the bytes that a byte of the text feeds it, nor its end: so it is on each path, what it refuses there has other causes,
-- and the same is kept of the text that has been read.
use Rattle.std.proofs.Common.{◌≡◌, ℕ, ◌-◌, Bool, true, false, List, [], ◌∷◌, Option, Some, None, option_map, if◌then◌else◌, refl, sym, ap, ◌∙◌, subst}
use Rattle.js_lexer.specs.Refusals.{Cause, Refusal, JSTemplate}
use Rattle.js_step.specs.ScriptEvidence.{IsScriptShownBy, script_shown_by}
use Rattle.js_step.specs.ScriptScans.{ScriptScan, script_scan_end_error, script_scan_start}
use Rattle.js_step.proofs.ScriptEvidence.{scripts-shown}
use Rattle.place_core.specs.page.Classes.{Class, White, QuotationMark, Apostrophe, GreaterThan}
use Rattle.place_core.specs.page.Html.{ends_value}
use Rattle.place_core.specs.page.References.{Reference, Closed, plain_bytes}
use Rattle.place_core.specs.page.Tags.{feed_bytes, script_code, DoubleQuoted, SingleQuoted, Unquoted}
use Rattle.place_core.specs.place.Errors.{FedByte, PathCause, PathRefusal, TextRead, at_hand, at_value_end, bare_error, cause_back, deep_at, fed_error, fed_places, first_byte_error, first_cause, first_path_refusal, first_places, is_told_at_node_end, language_error, places_with, quotes_error, script_refusal_at, value_end_cause, value_error, placed_bytes, body_error}
use Rattle.place_core.specs.place.Places.{IsValidBody, joined_bodies, joined_quotes}
use Rattle.place_core.specs.declared.bare.Bare.{Bare}
use Rattle.place_core.specs.declared.body.Body.{Body}
use Rattle.place_core.specs.declared.body.Body.TheVariants as body
use Rattle.place_core.specs.declared.code.Code.{Code}
use Rattle.place_core.specs.declared.js.Js.{Js}
use Rattle.place_core.specs.declared.member.Member.TheVariants as member
use Rattle.place_core.specs.declared.place.Place.TheVariants as place
use Rattle.place_core.specs.declared.quotes.Quotes.{Quotes}
use Rattle.place_core.specs.declared.quotes.Quotes.TheVariants as quotes
use Rattle.place_core.specs.declared.tag_of.TagOf.{TagOf}
use Rattle.place_core.specs.declared.value_place.ValuePlace.{ValuePlace}
use Rattle.place_core.proofs.Semilattices.{no_map, none_some}
use Rattle.html_scan.specs.Scans.{Scan, At, InScript, all_scripts, begun_script_deep, begun_script_fed, begun_script_refusal, body_cause, ends_quoted, quoted_error, quoted_places, scan_error, scan_fed_behind, scan_deep_behind, scan_script_refusal, script_cause, script_fed_byte, script_feeding, script_step_deep, script_step_refusal, scan_cut_error, scan_script_cut_refusal}
use Rattle.place_core.proofs.Joins.{places_same}
use Rattle.html_step.proofs.UrlScans.{below-reference}
use Rattle.html_step.proofs.FedAlike.{first-caused}
use Rattle.html_step.proofs.PathScans.{none-at-hand}
use Rattle.html_step.specs.Origins.{begun_script_shows, bytes_of_places, script_back, script_value_ends, script_shown, script_step_shows, script_told_shown}
use Rattle.html_step.specs.Steps.{scan_read_behind}
use Rattle.html_step.proofs.BelowScans.{below-script, below-at-value}
use Rattle.html_step.proofs.ScanOrder.{ScanBelow, ScanValid, bare-parts, cause-accepts, first-none, end-grows, script_cut}
use Rattle.html_step.proofs.PlaceParts.{Under, ValueBelow, below-value}
use Rattle.html_step.proofs.ScriptAlike.{Alike, alike-quoted, same-quoted-bytes, shown-under, takes-value, told-none}
use Rattle.html_step.proofs.ScriptEnds.{begun-none, fed-none, fed-state, bytes-placed, script-cut-takes}
use Rattle.html_step.proofs.ScriptFrom.{TakesScript}
use Rattle.html_step.proofs.ScriptOrder.{ScriptUnder, script-grows}
use Rattle.html_step.proofs.ScriptTold.{SameValue, below-same, value-errors}

no : false ≡ true → ⊥
no e = cc

given : {A : Type 0} (a : A) → Some a ≡ None → ⊥
given a e = cc

-- the bytes, where none is refused
pub taken-error : (bytes : List ℕ) (written : Bool) (back : ℕ) (n : ScriptScan) → TakesScript bytes n → fed_error script_feeding n bytes written back ≡ None
taken-error [] written back n t = refl
taken-error (b ∷ bs) written back n t =
    let later = if written then back - 1 else back in
    ap (λ (o : Option Cause). first_cause (cause_back back (option_map (λ z. script_code z.refusal) o)) (fed_error script_feeding (script_fed_byte n b) bs written later)) t.0
    ∙ taken-error bs written later (script_fed_byte n b) t.1

pub takes-under : (bytes : List ℕ) (m k : ScriptScan) → TakesScript bytes m → ScriptUnder k m
    → TakesScript bytes k × ScriptUnder (feed_bytes script_feeding k bytes) (feed_bytes script_feeding m bytes)
takes-under [] m k t l = (tt, l)
takes-under (b ∷ bs) m k t l =
    let g = script-grows k m l in
    let more = takes-under bs (script_fed_byte m b) (script_fed_byte k b) t.1 (g.next false b t.0) in
    ((g.error false b t.0, more.0), more.1)

abbrev pub no_end : ScriptScan → Option Cause
no_end n = None

pub both-alike : (bytes : List ℕ) (k m : ScriptScan) → TakesScript bytes k → TakesScript bytes m → Alike false bytes no_end k m
both-alike [] k m s t = refl
both-alike (b ∷ bs) k m s t = (s.0 ∙ sym t.0, λ e. both-alike bs (script_fed_byte k b) (script_fed_byte m b) s.1 t.1)

-- The end of a value: refused alike, where it is not refused before the end of the node.
node-end : (r : Refusal) → is_told_at_node_end r ≡ true → (m : ScriptScan) → script_shown_by m member.Whole r ≡ Some member.Whole
node-end JSTemplate e m = refl
node-end _ e m = absurd (no e)

value-end : (x : Cause) (t : Bool) → is_told_at_node_end x.refusal ≡ t → at_value_end (Some x) ≡ None → is_told_at_node_end x.refusal ≡ true
value-end x true i e = i
value-end x false i e = absurd (given x (sym (ap (λ (z : Bool). if z then None else Some x) i) ∙ e))

end-by : (o : Option Cause) (k m : ScriptScan) → script_scan_end_error m ≡ o → ScriptUnder k m → at_value_end o ≡ None
    → script_scan_end_error k ≡ script_scan_end_error m
end-by None k m i l e = (script-grows k m l).end_error i ∙ sym i
end-by (Some x) k m i l e =
    let t = value-end x (is_told_at_node_end x.refusal) refl e in
    shown-under member.Whole m script_scan_end_error x i
    (subst (λ (z : Option _). IsScriptShownBy z m script_scan_end_error x) (node-end x.refusal t m) (scripts-shown.end m x i)) k l refl

pub end-under : (k m : ScriptScan) → ScriptUnder k m → at_value_end (script_scan_end_error m) ≡ None → script_scan_end_error k ≡ script_scan_end_error m
end-under k m l e = end-by (script_scan_end_error m) k m refl l e

cause-under : (x : Bool) (k m : ScriptScan) → ScriptUnder k m → script_value_ends x m ≡ None → value_end_cause all_scripts x k ≡ value_end_cause all_scripts x m
cause-under true k m l e = end-under k m l e
cause-under false k m l e = refl

-- In a script.
pub quiet-told : (q : Quotes) (r : Reference) (c : Class) (b : ℕ) (m : ScriptScan) → script_step_shows q m r c b ≡ None
    → TakesScript (bytes_of_places (quoted_places q 0 r c b)) m
    × (script_value_ends (ends_quoted q c) (feed_bytes script_feeding m (bytes_of_places (quoted_places q 0 r c b))) ≡ None)
quiet-told q r c b m h =
    (let ends = script_value_ends (ends_quoted q c) in
    let bytes = bytes_of_places (quoted_places q 0 r c b) in
    let d = told-none false bytes ends m (no_map (script_back m) (script_told_shown false ends bytes m) h) in
    (takes-value bytes m d.0, d.1))

first-of : (o p : Option PathRefusal) → o ≡ None → p ≡ None → first_path_refusal o p ≡ None
first-of o p e i = ap (λ (x : Option PathRefusal). first_path_refusal x p) e ∙ i

pub in-quiet : (q : Quotes) (k : ℕ) (places : List ℕ) (r : Reference) (c : Class) (b : ℕ) (m : ScriptScan) → TakesScript (bytes_of_places (quoted_places q 0 r c b)) m
    → script_value_ends (ends_quoted q c) (feed_bytes script_feeding m (bytes_of_places (quoted_places q 0 r c b))) ≡ None
    → script_step_refusal q k places m r c b ≡ None
in-quiet q k places r c b m t e =
    let xs = quoted_places q k r c b in
    let ends = script_value_ends (ends_quoted q c) in
    let same = same-quoted-bytes q k r c b in
    first-of _ _ (fed-none xs places m (subst (λ (bytes : List ℕ). TakesScript bytes m) (sym same) t))
    (ap (script_refusal_at (k ∷ places_with xs places))
    (ap ends (fed-state xs m ∙ ap (feed_bytes script_feeding m) same) ∙ e))

-- below it
pub record QuietUnder (u v : ValuePlace) (n m : ScriptScan) (r : Reference) (c : Class) (b : ℕ) : Type 0 where
  pub takes : TakesScript (bytes_of_places (quoted_places v.quotes 0 r c b)) n
  pub under : ScriptUnder (feed_bytes script_feeding n (bytes_of_places (quoted_places v.quotes 0 r c b)))
      (feed_bytes script_feeding m (bytes_of_places (quoted_places v.quotes 0 r c b)))
  pub ends : value_end_cause all_scripts (ends_quoted v.quotes c) (feed_bytes script_feeding n (bytes_of_places (quoted_places v.quotes 0 r c b)))
      ≡ value_end_cause all_scripts (ends_quoted v.quotes c) (feed_bytes script_feeding m (bytes_of_places (quoted_places v.quotes 0 r c b)))
  pub quiet : script_value_ends (ends_quoted v.quotes c) (feed_bytes script_feeding m (bytes_of_places (quoted_places v.quotes 0 r c b))) ≡ None
  pub taken : TakesScript (bytes_of_places (quoted_places v.quotes 0 r c b)) m

quiet-under : (u v : ValuePlace) (n m : ScriptScan) (r : Reference) (c : Class) (b : ℕ) → ScriptUnder n m → script_step_shows v.quotes m r c b ≡ None
    → QuietUnder u v n m r c b
quiet-under u v n m r c b l h =
    let d = quiet-told v.quotes r c b m h in
    let bytes = bytes_of_places (quoted_places v.quotes 0 r c b) in
    let t = takes-under bytes m n d.0 l in
    record {
      takes = t.0;
      under = t.1;
      ends = cause-under (ends_quoted v.quotes c) (feed_bytes script_feeding n bytes) (feed_bytes script_feeding m bytes) t.1 d.1;
      quiet = d.1;
      taken = d.0;
    }

pub script-errors : (u v : ValuePlace) (n m : ScriptScan) (r : Reference) (c : Class) (b : ℕ) → SameValue u v → ScriptUnder n m
    → script_step_shows v.quotes m r c b ≡ None → script_cause u n r c b ≡ script_cause v m r c b
script-errors u v n m r c b s l h =
    let q = quiet-under u v n m r c b l h in
    ap (λ (o : Option PathCause). first_cause o (at_hand (value_error u c)))
    (ap (λ (p : Quotes). quoted_error script_feeding p n r c b) s.quotes
    ∙ alike-quoted v.quotes 0 r c b no_end n m (both-alike (bytes_of_places (quoted_places v.quotes 0 r c b)) n m q.takes q.taken))
    ∙ ap (λ (o : Option PathCause). first_cause (quoted_error script_feeding v.quotes m r c b) o) (value-errors u v c s)

script-quiet : (k : ℕ) (places : List ℕ) (u v : ValuePlace) (n m : ScriptScan) (r : Reference) (c : Class) (b : ℕ) → SameValue u v → ScriptUnder n m
    → script_step_shows v.quotes m r c b ≡ None → script_step_refusal u.quotes k places n r c b ≡ None
script-quiet k places u v n m r c b s l h =
    let q = quiet-under u v n m r c b l h in
    ap (λ (p : Quotes). script_step_refusal p k places n r c b) s.quotes
    ∙ in-quiet v.quotes k places r c b n q.takes (ap at_value_end q.ends ∙ q.quiet)

script-deep : (k : ℕ) (places : List ℕ) (u v : ValuePlace) (n m : ScriptScan) (r : Reference) (c : Class) (b : ℕ) → SameValue u v → ScriptUnder n m
    → script_step_shows v.quotes m r c b ≡ None → script_step_deep u.quotes k places n r c b ≡ script_step_deep v.quotes k places m r c b
script-deep k places u v n m r c b s l h =
    let q = quiet-under u v n m r c b l h in
    let xs = quoted_places v.quotes k r c b in
    let same = same-quoted-bytes v.quotes k r c b in
    let ends = value_end_cause all_scripts (ends_quoted v.quotes c) in
    ap (λ (p : Quotes). script_step_deep p k places n r c b) s.quotes
    ∙ ap (deep_at (k ∷ places_with xs places))
    (ap ends (fed-state xs n ∙ ap (feed_bytes script_feeding n) same) ∙ q.ends ∙ sym (ap ends (fed-state xs m ∙ ap (feed_bytes script_feeding m) same)))

-- Where a text begins at a place of a script.
placed-quiet : (c : Class) (b : ℕ) (n : ScriptScan) → TakesScript (bytes_of_places (placed_bytes false 0 (plain_bytes c b))) n
    → fed_error script_feeding n (plain_bytes c b) false 0 ≡ None
placed-quiet c b n t =
    taken-error (plain_bytes c b) false 0 n (subst (λ (bytes : List ℕ). TakesScript bytes n) (bytes-placed false 0 (plain_bytes c b)) t)

closed-quiet : (stops : Bool) (c : Class) (b : ℕ) (n : ScriptScan) → TakesScript (bytes_of_places (fed_places stops 0 Closed c b)) n
    → language_error script_feeding stops n Closed c b ≡ None
closed-quiet true c b n t = refl
closed-quiet false c b n t = placed-quiet c b n t

bare-quiet : (x : Bool) (c : Class) (b : ℕ) (n : ScriptScan)
    → TakesScript (bytes_of_places (if x then fed_places (ends_value Unquoted c) 0 Closed c b else first_places 0 c b)) n
    → (if x then language_error script_feeding (ends_value Unquoted c) n Closed c b else first_byte_error script_feeding n c b) ≡ None
bare-quiet true c b n t = closed-quiet (ends_value Unquoted c) c b n t
bare-quiet false White b n t = refl
bare-quiet false QuotationMark b n t = refl
bare-quiet false Apostrophe b n t = refl
bare-quiet false GreaterThan b n t = refl
bare-quiet false c b n t = placed-quiet c b n t

pub start-quiet : (q : Quotes) (c : Class) (b : ℕ) (n : ScriptScan) → TakesScript (bytes_of_places (quoted_places q 0 Closed c b)) n
    → quoted_error script_feeding q n Closed c b ≡ None
start-quiet quotes.Dq c b n t = closed-quiet (ends_value DoubleQuoted c) c b n t
start-quiet quotes.Sq c b n t = closed-quiet (ends_value SingleQuoted c) c b n t
start-quiet (quotes.Bare x) c b n t = bare-quiet x.uq c b n t

pub begun-quiet : (x : Body) (q : Quotes) (c : Class) (b : ℕ) (j : Js) → x ≡ body.Js j → begun_script_shows x q c b ≡ None → body_cause x q Closed c b ≡ None
begun-quiet x q c b j d h =
    subst (λ (z : Body). body_cause z q Closed c b ≡ None) (sym d)
    (start-quiet q c b (script_scan_start j) (quiet-told q Closed c b (script_scan_start j) (ap (λ (z : Body). begun_script_shows z q c b) (sym d) ∙ h)).0)

-- What a value below has of a script, the value has.
js-above : (i : Js) (x : Body) → joined_bodies (body.Js i) x ≡ Some x → (j : Js) × (x ≡ body.Js j)
js-above i (body.Js j) h = (j, refl)
js-above i x h = absurd (none_some x h)

value-quiet : (k : ℕ) (u v : ValuePlace) (x : Body) (c : Class) (b : ℕ) → u.body ≡ x → IsValidBody x → ValueBelow u v → begun_script_shows v.body v.quotes c b ≡ None
    → (begun_script_refusal x u.quotes k c b ≡ None) × (begun_script_deep x u.quotes k c b ≡ None)
value-quiet k u v (body.Js i) c b d w l h =
    let a = js-above i v.body (subst (λ (z : Body). joined_bodies z v.body ≡ Some v.body) d l.body) in
    begun-none (body.Js i) u.quotes k c b
    (cause-accepts (body.Js i) v.body u.quotes v.quotes Closed c b w (subst (λ (z : Body). joined_bodies z v.body ≡ Some v.body) d l.body) l.quotes tt
    (begun-quiet v.body v.quotes c b a.0 a.1 h))
value-quiet k u v _ c b d w l h = (refl, refl)

-- nothing is refused by a script
pub quiet-below : (k : ℕ) (places : List ℕ) (f g : Scan) (c : Class) (b : ℕ) → ScanValid f → ScanValid g → ScanBelow g f → script_shown f c b ≡ None
    → scan_script_refusal k places g c b ≡ None
quiet-below k places (InScript v m r) g c b w z l h =
    below-script (λ (g : Scan). ScanValid g → scan_script_refusal k places g c b ≡ None) v m r
    (λ u n j i. script-quiet k places u v n m r c b (below-same u v n m r i w j) j.scan h) g l z
quiet-below k places (At (place.Value v)) (At (place.Value u)) c b w z l h = (value-quiet k u v u.body c b refl z.1 (below-value u v l) h).0
quiet-below k places (At p) (At (place.Value u)) c b w z l h = absurd (none_some p l)
quiet-below k places _ (At (place.Value u)) c b w z l h = absurd l
quiet-below k places f (At _) c b w z l h = refl
quiet-below k places _ (InScript u n r) c b w z l h = absurd l
quiet-below k places f _ c b w z l h = refl

-- At a place in quotes the same bytes are fed on each path, where its quotes refuse nothing.
if-refused : (x : Bool) (e : Code) → x ≡ true → (if x then Some e else None) ≡ None → ⊥
if-refused true e h n = given e n
if-refused false e h n = no h

bare-places : (a d : Bool) (t : TagOf) (p : Bare) (k : ℕ) (c : Class) (b : ℕ) → p.uq ≡ d → Under a d → bare_error t p c ≡ None
    → (if a then fed_places (ends_value Unquoted c) k Closed c b else first_places k c b)
    ≡ (if d then fed_places (ends_value Unquoted c) k Closed c b else first_places k c b)
bare-places true true t p k c b h u e = refl
bare-places false false t p k c b h u e = refl
bare-places true false t p k c b h u e = absurd (no (sym u))
bare-places false true t p k White b h u e = refl
bare-places false true t p k QuotationMark b h u e = absurd (if-refused p.uq _ h e)
bare-places false true t p k Apostrophe b h u e = absurd (if-refused p.uq _ h e)
bare-places false true t p k GreaterThan b h u e = refl
bare-places false true t p k c b h u e = refl

places-below : (q p : Quotes) (t : TagOf) (k : ℕ) (c : Class) (b : ℕ) → joined_quotes q p ≡ Some p → quotes_error t p c ≡ None
    → quoted_places q k Closed c b ≡ quoted_places p k Closed c b
places-below quotes.Dq quotes.Dq t k c b j e = refl
places-below quotes.Sq quotes.Sq t k c b j e = refl
places-below (quotes.Bare x) (quotes.Bare y) t k c b j e = bare-places x.uq y.uq t y k c b refl (bare-parts x y j).0 e
places-below quotes.Dq quotes.Sq t k c b j e = absurd (none_some quotes.Sq j)
places-below quotes.Dq (quotes.Bare y) t k c b j e = absurd (none_some (quotes.Bare y) j)
places-below quotes.Sq quotes.Dq t k c b j e = absurd (none_some quotes.Dq j)
places-below quotes.Sq (quotes.Bare y) t k c b j e = absurd (none_some (quotes.Bare y) j)
places-below (quotes.Bare x) quotes.Dq t k c b j e = absurd (none_some quotes.Dq j)
places-below (quotes.Bare x) quotes.Sq t k c b j e = absurd (none_some quotes.Sq j)

-- What is kept of the text that has been read is the same on each path, behind a byte that is not refused.
fed-same-by : (k : ℕ) (u v : ValuePlace) (x y : Body) (c : Class) (b : ℕ) → joined_bodies x y ≡ Some y → joined_quotes u.quotes v.quotes ≡ Some v.quotes
    → quotes_error v.tag v.quotes c ≡ None → begun_script_fed x u.quotes k c b ≡ begun_script_fed y v.quotes k c b
fed-same-by k u v (body.Js i) (body.Js j) c b h l e = ap (λ (xs : List FedByte). places_with xs []) (places-below u.quotes v.quotes v.tag k c b l e)
fed-same-by k u v (body.Js i) y c b h l e = absurd (none_some y h)
fed-same-by k u v x (body.Js j) c b h l e = absurd (none_some (body.Js j) h)
fed-same-by k u v x y c b h l e = refl

none-of : (o : Option ℕ) → o ≡ None → (p : Option ℕ) → p ≡ None → o ≡ p
none-of o e p i = e ∙ sym i

value-read : (k : ℕ) (u v : ValuePlace) (c : Class) (b : ℕ) → IsValidBody u.body → IsValidBody v.body → ValueBelow u v → begun_script_shows v.body v.quotes c b ≡ None
    → at_hand (value_error v c) ≡ None
    → (begun_script_fed u.body u.quotes k c b ≡ begun_script_fed v.body v.quotes k c b)
    × (begun_script_deep u.body u.quotes k c b ≡ begun_script_deep v.body v.quotes k c b)
value-read k u v c b w z l h e =
    let f = first-none (body_error v.body) (quotes_error v.tag v.quotes c) (none-at-hand (value_error v c) e) in (
      fed-same-by k u v u.body v.body c b l.body l.quotes f.1,
      none-of (begun_script_deep u.body u.quotes k c b) (value-quiet k u v u.body c b refl w l h).1
          (begun_script_deep v.body v.quotes k c b) (value-quiet k v v v.body c b refl z (below-value v v (places_same (place.Value v))) h).1,
    )

abbrev SameBehind : ℕ → List ℕ → Scan → Scan → Class → ℕ → Type 0
SameBehind k places g f c b = (scan_fed_behind k places g c b ≡ scan_fed_behind k places f c b) × (scan_deep_behind k places g c b ≡ scan_deep_behind k places f c b)

same-behind : (k : ℕ) (places : List ℕ) (f g : Scan) (c : Class) (b : ℕ) → ScanValid f → ScanValid g → ScanBelow g f → script_shown f c b ≡ None
    → scan_error f c b ≡ None → SameBehind k places g f c b
same-behind k places (InScript v m r) g c b w z l h e =
    below-script (λ (g : Scan). ScanValid g → SameBehind k places g (InScript v m r) c b) v m r
    (λ u n j i. let s = below-same u v n m r i w j in (
      ap (λ (q : Quotes). places_with (quoted_places q k r c b) places) s.quotes,
      script-deep k places u v n m r c b s j.scan h,
    )) g l z
same-behind k places (At (place.Value v)) g c b w z l h e =
    below-at-value (λ (g : Scan). ScanValid g → SameBehind k places g (At (place.Value v)) c b) v
    (λ u j i. value-read k u v c b i.1 w.1 j h (first-caused (body_cause v.body v.quotes Closed c b) (at_hand (value_error v c)) e).1)
    (λ u n d i j o. subst (λ (x : Body). ([] ≡ begun_script_fed x v.quotes k c b) × (None ≡ begun_script_deep x v.quotes k c b)) (sym i) (refl, refl)) g l z
same-behind k places (At p) (At (place.Value u)) c b w z l h e = absurd (none_some p l)
same-behind k places _ (At (place.Value u)) c b w z l h e = absurd l
same-behind k places _ (InScript u n r) c b w z l h e = absurd l
same-behind k places f g c b w z l h e = (refl, refl)

pub same-read : (k : ℕ) (since : TextRead) (f g : Scan) (c : Class) (b : ℕ) → ScanValid f → ScanValid g → ScanBelow g f → script_shown f c b ≡ None
    → scan_error f c b ≡ None → scan_read_behind k since g c b ≡ scan_read_behind k since f c b
same-read k since f g c b w z l h e =
    (let s = same-behind k since.fed f g c b w z l h e in rw ((below-reference g f l), s.0, s.1) refl)

-- At the end of a text.
pub quiet-end : (k : ℕ) (places : List ℕ) (f g : Scan) → ScanBelow g f → scan_cut_error f ≡ None → script_cut f ≡ None
    → scan_script_cut_refusal k places g ≡ None
quiet-end k places (InScript v m r) g l h e = (let d = end-grows g (InScript v m r) l h refl e in script-cut-takes g d.0 d.3 k places)
quiet-end k places _ (InScript u n r) l h e = absurd l
quiet-end k places f _ l h e = refl
