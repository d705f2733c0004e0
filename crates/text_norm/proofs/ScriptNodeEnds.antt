-- Where a node ends in a script: what is pending is read, and in a token the beginning of a word is written as a word is. In code a `<` stays pending in the page,
-- and what goes on with it is refused, at this end or at the beginning of the next text.
use Rattle.std.proofs.Common.{◌≡◌, ℕ, ◌||◌, ◌&&◌, not, if◌then◌else◌, Bool, true, false, codes, List, [], ◌∷◌, ◌++◌, None, refl, sym, ap, ap₂, ◌∙◌, subst, true≢false}
use Rattle.std.proofs.lemmas.Bool.{and_right}
use Rattle.std.proofs.lemmas.List.{append-nil}
use Rattle.js_lexer.specs.Elements.{script_may_end}
use Rattle.js_lexer.specs.Classes as script
use Rattle.js_lexer.specs.Feeding.{feed_script, read_at, script_emits, tells_white_apart}
use Rattle.js_lexer.specs.Holes.{script_after_cut}
use Rattle.js_lexer.specs.PageScripts.{PageScript, ScriptStands, ScriptStandsLaws, ScriptTakes, are_behind_less, page_script}
use Rattle.js_lexer.specs.Refusals.{script_refuses_cut}
use Rattle.js_lexer.specs.States.{At, ScriptState}
use Rattle.js_lexer.specs.Trails.{is_empty}
use Rattle.js_lexer.specs.Written.{blank_of, escaped_less, is_block, is_line, is_outside, is_slash, is_taken_at, only_line_ends, script_hides, script_written, script_written_at_cut, waiting_slash, waits_behind}
use Rattle.place_core.specs.page.Contents.{Reads, content_at_cut, emits_content_cut, pending_bytes, script_step}
use Rattle.place_core.specs.page.Classes.{Class, class_of}
use Rattle.place_core.specs.page.Events.{InsideScript, LexEvent, told_in_script}
use Rattle.place_core.specs.page.States.{Page, Config, InContent, InLanguage, Pending, Nothing, PendingLess, LessAtCut, PendingName, PendingBang, PendingBangDash, PendingOpening}
use Rattle.place_core.specs.page.Tags.{OfScript, ValueState, languages}
use Rattle.place_core.specs.place.Errors.{element_script, language_cut_error, read_error, script_cause_back, script_read}
use Rattle.place_core.specs.declared.element.Element.{Element}
use Rattle.place_core.specs.declared.element.Element.TheVariants as element
use Rattle.place_core.proofs.Readings.{over-append}
use Rattle.text_norm.proofs.ScriptElementEnds.{EndsAt, at-end, ends-anywhere}
use Rattle.text_norm.proofs.ScriptElementKeeps.{RawBehind, RunsBy, class-solidus, lands-as, run-open}
use Rattle.text_norm.proofs.ScriptElementReads.{cause-none, is-at, slash-goes, slash-to, stands-from, takes-of}
use Rattle.text_norm.proofs.ScriptElementSteps.{may-go-on}
use Rattle.text_norm.proofs.ScriptElementWords.{behind-no-less, escaped-goes, held-nothing, token-no-comment, waiting-goes}
use Rattle.text_norm.proofs.ScriptLessFed.{LessFed, less-fed}
use Rattle.text_norm.proofs.ScriptNamesCut.{bang-cut, dash-cut, name-cut, name-of-goes}
use Rattle.text_norm.proofs.ScriptPages.{PageIsAt, fed-script, fed-told, goes-append, goes-from, less-goes, page-reads, read_page}
use Rattle.text_norm.proofs.ValuesKeep.{both-none}
use Rattle.text_norm.specs.Standing.{HeldBehind, IsBehindLess, PageGoes, ScriptComesToNothing, ScriptMayGoOn, StandsInLanguage, StandsInScript, TextStands, behind_less, in_script_comment, page, slash_waits}
use Rattle.text_norm.specs.Written.{cut_out, path_script, script_bytes_out, script_cut_out, script_end_state}

-- Before the node's end: where the page would be by the path's bytes, nothing is pending, or a `<` with which the node ends.
record BeforeCut (e : Element) (s : ScriptState) (held : Pending) : Type 0 where
  raw : Pending
  behind : RawBehind (in_script_comment s) (slash_waits s) e raw held
  comes : in_script_comment s ≡ false → ScriptComesToNothing Nothing raw (script_after_cut s)

none-waits-after : (s : ScriptState) → slash_waits (script_after_cut s) ≡ false
none-waits-after s =
    ap (λ (x : Bool). not (is_empty (if x then codes "/" else [])))
    (ap (λ (x : Bool). is_outside is_slash s && x) (and_right (is_empty s.held) false refl) ∙ and_right (is_outside is_slash s) false refl)

held-by : (e : Element) (s : ScriptState) (raw there : Pending) (c : Bool) → in_script_comment s ≡ c → EndsAt c e raw there → (in_script_comment s ≡ false → ScriptComesToNothing Nothing raw (script_after_cut s))
    → HeldBehind c false e Nothing there (script_after_cut s)
held-by e s raw there true c r f = r
held-by e s raw there false c r f = subst (λ (g : Pending). ScriptComesToNothing Nothing g (script_after_cut s)) (sym r) (f c)

cut-behind : ScriptStandsLaws LexEvent InsideScript → (e : Element) (s : ScriptState) (held : Pending) (t : List LexEvent) (p : PageScript LexEvent) (d : Config ValueState) → PageIsAt e held p d
    → ScriptStands LexEvent InsideScript s t p → script_refuses_cut s ≡ None → BeforeCut e s held
    → StandsInScript e (script_after_cut s) Nothing t (page languages (script_written_at_cut s) d)
cut-behind laws e s held t p d l stands n b =
    let k = at-end e s b.raw held b.behind in
    stands-from e (script_after_cut s) Nothing k.there held t (script_written_at_cut s) p d l k.goes (laws.cut s t p stands n)
    (subst (λ (w : Bool). HeldBehind (in_script_comment s) w e Nothing k.there (script_after_cut s)) (sym (none-waits-after s))
    (held-by e s b.raw k.there (in_script_comment s) refl k.ends b.comes))

-- where nothing is pending on the path
less-after : (s : ScriptState) → IsBehindLess s → IsBehindLess (script_after_cut s)
less-after s i = record { sense = i.sense; literals = i.literals; at = i.at; held = i.held; fresh = refl; less = i.less }

nothing-after : (held : Pending) (s : ScriptState) → ScriptComesToNothing Nothing held s → ScriptComesToNothing Nothing held (script_after_cut s)
nothing-after Nothing s h = tt
nothing-after PendingLess s h = less-after s h
nothing-after LessAtCut s h = absurd h
nothing-after (PendingName letters) s h = absurd h
nothing-after PendingBang s h = absurd h
nothing-after PendingBangDash s h = absurd h
nothing-after (PendingOpening letters) s h = absurd h

loose-cut : (e : Element) (s : ScriptState) (held : Pending) (c w : Bool) → in_script_comment s ≡ c → slash_waits s ≡ w → HeldBehind c w e Nothing held s → BeforeCut e s held
loose-cut e s held true w p q n = record { raw = Nothing; behind = lands-as e s Nothing held true w p q n; comes = λ c. absurd (true≢false (sym p ∙ c)) }
loose-cut e s held false true p q n =
    let k = slash-goes e held n.0 in
    let none = slash-to e held k.0 k.1.read n.0 (n.1 refl) (ap (λ (z : Class). script_step true e held z 47) (sym class-solidus) ∙ k.1.step) in
    record {
      raw = k.0;
      behind = lands-as e s k.0 held false true p q (n.0, (k.0, k.1, refl));
      comes = λ c. subst (λ (g : Pending). ScriptComesToNothing Nothing g (script_after_cut s)) (sym none) tt;
    }
loose-cut e s held false false p q n = record { raw = held; behind = lands-as e s held held false false p q refl; comes = λ c. nothing-after held s n }

-- Where bytes have been read behind which the page would have nothing pending.
raw-cut : (e : Element) (s : ScriptState) (raw held : Pending) → raw ≡ Nothing → RawBehind (in_script_comment s) (slash_waits s) e raw held → BeforeCut e s held
raw-cut e s raw held q r = record { raw = raw; behind = r; comes = λ c. subst (λ (g : Pending). ScriptComesToNothing Nothing g (script_after_cut s)) (sym q) tt }

-- A token: what is pending is the beginning of a word.
token-cut : ScriptStandsLaws LexEvent InsideScript → (s : ScriptState) (rest : List ℕ) (h : Pending) (t : List LexEvent) (d : Config ValueState) → script_may_end s ≡ false → are_behind_less rest ≡ true
    → StandsInScript element.Script s h t d
    → (let q = read_page (60 ∷ rest) (page_script s t) in script_refuses_cut q.state ≡ None
    → StandsInScript element.Script (script_after_cut q.state) Nothing q.told (page languages (script_hides s (60 ∷ rest) ++ script_written_at_cut q.state) d))
token-cut laws s rest h t d m w l n =
    let q = read_page (60 ∷ rest) (page_script s t) in
    let p = read_page (pending_bytes l.held) (page_script l.there l.told) in
    let out = script_hides s (60 ∷ rest) in
    let k = waiting-goes s h l.held (slash_waits s) refl (subst (λ (c : Bool). HeldBehind c (slash_waits s) element.Script h l.held s) (token-no-comment s m) l.nothing) in
    let at = page-reads out element.Script l.held Nothing p d
    (goes-append (waiting_slash s) (escaped_less (is_taken_at s.at) ++ rest) element.Script l.held k.0 Nothing k.1 (escaped-goes (is_taken_at s.at) rest k.0 (behind-no-less rest w)))
    (is-at element.Script s h t d l) in
    subst (StandsInScript element.Script (script_after_cut q.state) Nothing q.told) (sym (over-append languages Page out (script_written_at_cut q.state) d))
    (cut-behind laws element.Script q.state Nothing q.told (read_page out p) (page languages out d) at (laws.begun s rest t p l.stands m w n) n
    (loose-cut element.Script q.state Nothing (in_script_comment q.state) (slash_waits q.state) refl refl
    (held-nothing element.Script q.state Nothing (in_script_comment q.state) (slash_waits q.state))))

-- Bytes behind which the page would have nothing pending; in a comment none of them is written.
read-cut : ScriptStandsLaws LexEvent InsideScript → (s : ScriptState) (bs : List ℕ) (h : Pending) (t : List LexEvent) (d : Config ValueState) (c : Bool) → in_script_comment s ≡ c → ScriptTakes s bs
    → StandsInScript element.Script s h t d → ((raw : Pending) → RunsBy c element.Script raw bs Nothing)
    → (let q = read_page bs (page_script s t) in script_refuses_cut q.state ≡ None
    → StandsInScript element.Script (script_after_cut q.state) Nothing q.told (page languages (script_bytes_out path_script s bs ++ script_written_at_cut q.state) d))
read-cut laws s bs h t d c i takes l runs n =
    let q = read_page bs (page_script s t) in
    let p = read_page (pending_bytes l.held) (page_script l.there l.told) in
    let out = script_bytes_out path_script s bs in
    let z = ends-anywhere element.Script s h l.held (in_script_comment s) (slash_waits s) refl refl l.nothing in
    let r = run-open laws bs element.Script s t p z.0 l.held Nothing c i takes (record { stands = l.stands; behind = z.1 }) (runs z.0) in
    subst (StandsInScript element.Script (script_after_cut q.state) Nothing q.told) (sym (over-append languages Page out (script_written_at_cut q.state) d))
    (cut-behind laws element.Script q.state r.there q.told (read_page out p) (page languages out d) (page-reads out element.Script l.held r.there p d r.goes (is-at element.Script s h t d l)) r.both.stands n
    (raw-cut element.Script q.state r.raw r.there (r.nothing refl) r.both.behind))

-- A `<` of code.
or-parts : (x y : Bool) → (x || y) ≡ false → (x ≡ false) × (y ≡ false)
or-parts true y c = absurd (true≢false c)
or-parts false y c = (refl, c)

code-no-comment : (u : ScriptState) (l : LessFed u) → in_script_comment u ≡ false
code-no-comment u l = ap₂ (λ (fs : List ℕ) (a : At). (is_empty fs && is_line a) || (is_empty fs && is_block a)) l.literals l.at

code-no-slash : (u : ScriptState) (l : LessFed u) → slash_waits u ≡ false
code-no-slash u l =
    ap (λ (x : Bool). not (is_empty (if x && (is_empty u.held && not u.trail.fresh) then codes "/" else [])))
    (ap₂ (λ (fs : List ℕ) (a : At). is_empty fs && is_slash a) l.literals l.at)

less-written : (s : ScriptState) → in_script_comment s ≡ false → LessFed (feed_script s 60) → script_written s 60 ≡ waiting_slash s ++ 60 ∷ []
less-written s c l =
    let o = or-parts (is_outside is_line s) (is_outside is_block s) c in
    let u = feed_script s 60 in
    let rest = λ (x : Bool). if x then [] else waiting_slash s ++ 60 ∷ [] in
    ap (λ (x : Bool). if x then (if is_outside is_block u then [] else blank_of s.trail.lines)
    else (if is_outside is_line s then only_line_ends (read_at (tells_white_apart s.at) s.held (script.class_of 60) 60) else rest (waits_behind u 60))) o.1
    ∙ ap (λ (x : Bool). if x then only_line_ends (read_at (tells_white_apart s.at) s.held (script.class_of 60) 60) else rest (waits_behind u 60)) o.0
    ∙ ap rest (code-no-comment u l)

less-cut : ScriptStandsLaws LexEvent InsideScript → (s : ScriptState) (t : List LexEvent) (d : Config ValueState) → in_script_comment s ≡ false → LessFed (feed_script s 60) → ScriptTakes s (60 ∷ [])
    → StandsInScript element.Script s PendingLess t d
    → (let q = read_page (60 ∷ []) (page_script s t) in script_refuses_cut q.state ≡ None
    → StandsInScript element.Script (script_after_cut q.state) Nothing q.told (page languages (script_bytes_out path_script s (60 ∷ []) ++ script_written_at_cut q.state) d))
less-cut laws s t d c f takes l n =
    let q = read_page (60 ∷ []) (page_script s t) in
    let p = read_page (pending_bytes l.held) (page_script l.there l.told) in
    let out = script_bytes_out path_script s (60 ∷ []) in
    let none = append-nil (script_written s 60) in
    let k = waiting-goes s PendingLess l.held (slash_waits s) refl (subst (λ (x : Bool). HeldBehind x (slash_waits s) element.Script PendingLess l.held s) c l.nothing) in
    let goes = subst (λ (bs : List ℕ). PageGoes element.Script l.held bs PendingLess) (sym (none ∙ less-written s c f))
    (goes-append (waiting_slash s) (60 ∷ []) element.Script l.held k.0 PendingLess k.1 (PendingLess, less-goes element.Script k.0, refl)) in
    subst (StandsInScript element.Script (script_after_cut q.state) Nothing q.told) (sym (over-append languages Page out (script_written_at_cut q.state) d))
    (cut-behind laws element.Script q.state PendingLess q.told (read_page out p) (page languages out d) (page-reads out element.Script l.held PendingLess p d goes (is-at element.Script s PendingLess t d l))
    (subst (λ (bs : List ℕ). ScriptStands LexEvent InsideScript q.state q.told (read_page bs p)) (sym none) (laws.byte s 60 t p l.stands takes.0)) n
    (record {
      raw = PendingLess;
      behind = lands-as element.Script q.state PendingLess PendingLess false false (code-no-comment q.state f) (code-no-slash q.state f) refl;
      comes = λ c. record { sense = f.sense; literals = f.literals; at = f.at; held = f.held; fresh = refl; less = f.less };
    }))

-- By what is pending.
abbrev CutStands : Bool → ScriptState → Pending → List LexEvent → Config ValueState → Type 0
CutStands m s h t d =
    (let q = read_page (pending_bytes h) (page_script s t) in
    StandsInScript element.Script (script_after_cut q.state) Nothing q.told
    (page languages ((if m then script_bytes_out path_script s (pending_bytes h) else script_hides s (pending_bytes h)) ++ script_written_at_cut q.state) d))

loose-node : ScriptStandsLaws LexEvent InsideScript → (s : ScriptState) (t : List LexEvent) (d : Config ValueState) → StandsInScript element.Script s Nothing t d → script_refuses_cut s ≡ None
    → StandsInScript element.Script (script_after_cut s) Nothing t (page languages (script_written_at_cut s) d)
loose-node laws s t d l n =
    cut-behind laws element.Script s l.held t (read_page (pending_bytes l.held) (page_script l.there l.told)) d (is-at element.Script s Nothing t d l) l.stands n
    (loose-cut element.Script s l.held (in_script_comment s) (slash_waits s) refl refl l.nothing)

token-node : ScriptStandsLaws LexEvent InsideScript → (s : ScriptState) (h : Pending) (t : List LexEvent) (d : Config ValueState) → script_may_end s ≡ false → ScriptMayGoOn element.Script s h
    → script_refuses_cut (read_page (pending_bytes h) (page_script s t)).state ≡ None → StandsInScript element.Script s h t d → CutStands false s h t d
token-node laws s Nothing t d m g n l = loose-node laws s t d l n
token-node laws s PendingLess t d m g n l = token-cut laws s [] PendingLess t d m g.bytes l n
token-node laws s LessAtCut t d m g n l = token-cut laws s [] LessAtCut t d m g.bytes l n
token-node laws s (PendingName letters) t d m g n l = token-cut laws s (47 ∷ letters) (PendingName letters) t d m g.bytes l n
token-node laws s PendingBang t d m g n l = token-cut laws s (33 ∷ []) PendingBang t d m g.bytes l n
token-node laws s PendingBangDash t d m g n l = token-cut laws s (33 ∷ 45 ∷ []) PendingBangDash t d m g.bytes l n
token-node laws s (PendingOpening letters) t d m g n l = token-cut laws s letters (PendingOpening letters) t d m g.bytes l n

less-at-cut : (bs : List ℕ) (k : Pending) → script_step true element.Script Nothing (class_of 60) 60 ≡ Reads bs k → k ≡ LessAtCut → ⊥
unfolding class_of
less-at-cut bs k a b = cc

code-node : ScriptStandsLaws LexEvent InsideScript → (s : ScriptState) (h : Pending) (t : List LexEvent) (d : Config ValueState) → in_script_comment s ≡ false → LessFed (feed_script s 60) → ScriptMayGoOn element.Script s h
    → ScriptTakes s (pending_bytes h) → script_refuses_cut (read_page (pending_bytes h) (page_script s t)).state ≡ None → StandsInScript element.Script s h t d → CutStands true s h t d
code-node laws s Nothing t d c f g takes n l = loose-node laws s t d l n
code-node laws s PendingLess t d c f g takes n l = less-cut laws s t d c f takes l n
code-node laws s LessAtCut t d c f g takes n l = absurd (less-at-cut g.goes_on.1.read g.goes_on.0 g.goes_on.1.step g.goes_on.2)
code-node laws s (PendingName letters) t d c f g takes n l = absurd (name-cut (feed_script s 60) letters _ f (name-of-goes letters g.goes_on) n)
code-node laws s PendingBang t d c f g takes n l = absurd (bang-cut (feed_script s 60) f n)
code-node laws s PendingBangDash t d c f g takes n l = absurd (dash-cut (feed_script s 60) f n)
code-node laws s (PendingOpening letters) t d c f g takes n l =
    read-cut laws s (60 ∷ letters) (PendingOpening letters) t d false c takes l (λ raw. (goes-from letters element.Script raw Nothing g.goes_on, behind-no-less letters g.bytes)) n

node-by : ScriptStandsLaws LexEvent InsideScript → (s : ScriptState) (h : Pending) (t : List LexEvent) (d : Config ValueState) (m c : Bool) → script_may_end s ≡ m → in_script_comment s ≡ c → ScriptMayGoOn element.Script s h
    → ScriptTakes s (pending_bytes h) → script_refuses_cut (read_page (pending_bytes h) (page_script s t)).state ≡ None → StandsInScript element.Script s h t d → CutStands m s h t d
node-by laws s h t d false c m i g takes n l = token-node laws s h t d m g n l
node-by laws s h t d true true m i g takes n l =
    read-cut laws s (pending_bytes h) h t d true i takes l (λ raw. behind-no-less (behind_less (pending_bytes h)) g.bytes) n
node-by laws s h t d true false m i g takes n l = code-node laws s h t d i (less-fed s m i) g takes n l

-- the states in which the bytes end
end-state : (bs : List ℕ) (s : ScriptState) (t : List LexEvent) → script_end_state path_script s bs ≡ (read_page bs (page_script s t)).state
end-state [] s t = refl
end-state (b ∷ bs) s t = end-state bs (feed_script s b) (told_in_script (script_emits s b []) t)

read-state : (bs : List ℕ) (s : ScriptState) (t : List LexEvent) → script_read element_script s bs ≡ (read_page bs (page_script s t)).state
read-state [] s t = refl
read-state (b ∷ bs) s t = read-state bs (feed_script s b) (told_in_script (script_emits s b []) t)

script-node : ScriptStandsLaws LexEvent InsideScript → (s : ScriptState) (h : Pending) (t : List LexEvent) (d : Config ValueState) → language_cut_error (OfScript s) h ≡ None → ScriptMayGoOn element.Script s h
    → StandsInScript element.Script s h t d
    → (let q = read_page (pending_bytes h) (page_script s t) in StandsInScript element.Script (script_after_cut q.state) Nothing q.told (page languages (script_cut_out path_script h s) d))
script-node laws s h t d x g l =
    let q = read_page (pending_bytes h) (page_script s t) in
    let y = both-none (read_error element_script s (pending_bytes h) 1) (script_cause_back 0 (script_refuses_cut (script_read element_script s (pending_bytes h)))) x in
    let n = ap script_refuses_cut (sym (read-state (pending_bytes h) s t)) ∙ cause-none 0 (script_refuses_cut (script_read element_script s (pending_bytes h))) y.1 in
    subst (λ (z : ScriptState). StandsInScript element.Script (script_after_cut q.state) Nothing q.told
    (page languages ((if script_may_end s then script_bytes_out path_script s (pending_bytes h) else script_hides s (pending_bytes h)) ++ script_written_at_cut z) d)) (sym (end-state (pending_bytes h) s t))
    (node-by laws s h t d (script_may_end s) (in_script_comment s) refl refl g (takes-of (pending_bytes h) s 1 y.0) n l)

-- in the form of a node's end
pub script-node-end : ScriptStandsLaws LexEvent InsideScript → (e : Element) (s : ScriptState) (h : Pending) (t : List LexEvent) (d : Config ValueState) → language_cut_error (OfScript s) h ≡ None
    → StandsInLanguage languages e (OfScript s) h t d
    → TextStands languages (InContent e (content_at_cut languages (InLanguage (OfScript s)) h) Nothing) (emits_content_cut languages (InLanguage (OfScript s)) h t)
    (page languages (cut_out languages (InContent e (InLanguage (OfScript s)) h)) d)
script-node-end laws e s h t d x l =
    let z = read_page (pending_bytes h) (page_script s t) in
    let out = page languages (script_cut_out path_script h s) d in
    subst (λ (f : Element). StandsInLanguage languages f (OfScript s) h t d
    → TextStands languages (InContent f (content_at_cut languages (InLanguage (OfScript s)) h) Nothing) (emits_content_cut languages (InLanguage (OfScript s)) h t) out) (sym l.0.element)
    (λ m. subst (λ (u : List LexEvent). TextStands languages (InContent element.Script (content_at_cut languages (InLanguage (OfScript s)) h) Nothing) u out) (sym (fed-told (pending_bytes h) s t))
    (subst (λ (v : ValueState). TextStands languages (InContent element.Script (InLanguage (languages.after_cut v)) Nothing) z.told out) (sym (fed-script (pending_bytes h) s t))
    (may-go-on (script_after_cut z.state) Nothing tt, script-node laws s h t d x m.0 m.1))) l
