-- Where the end tag of a script ends its element: the page ends it there too, and its script has told the same.
use Rattle.std.proofs.Common.{◌≡◌, ℕ, ◌||◌, ◌&&◌, not, if◌then◌else◌, Bool, true, false, codes, List, [], ◌∷◌, ◌++◌, refl, sym, ap, ◌∙◌, subst, true≢false}
use Rattle.std.proofs.lemmas.List.{append_assoc, append_cancel_right}
use Rattle.js_lexer.specs.Elements.{script_may_end}
use Rattle.js_lexer.specs.PageScripts.{PageScript, ScriptStandsLaws, page_script}
use Rattle.js_lexer.specs.States.{At, LineComment, BlockComment, ScriptState}
use Rattle.js_lexer.specs.Trails.{is_empty}
use Rattle.js_lexer.specs.Written.{blank_of, is_block, is_line, is_outside, is_slash, script_written_at_cut, waiting_slash}
use Rattle.place_core.proofs.ScriptSteps.{step-ends}
use Rattle.place_core.specs.page.Classes.{Class, class_of}
use Rattle.place_core.specs.page.Contents.{ScriptStep, EndsContent, behind_end_tag, emits_behind_end_tag, emits_by_step, next_by_step, pending_bytes, script_step}
use Rattle.place_core.specs.page.Events.{EndTagBegins, InsideScript, LexEvent, tag_name_bytes}
use Rattle.place_core.specs.page.States.{Config, Pending, Nothing, PendingName, config}
use Rattle.place_core.specs.page.Tags.{OfScript, ValueState, languages}
use Rattle.place_core.specs.declared.element.Element.{Element}
use Rattle.text_norm.proofs.Runs.{on}
use Rattle.text_norm.proofs.ScriptElementKeeps.{RawBehind, blank-goes, lands-as, waiting-is}
use Rattle.text_norm.proofs.ScriptElementReads.{slash-goes}
use Rattle.text_norm.proofs.ScriptPages.{goes-append, goes-from, page-exact, read-page-append, read_page}
use Rattle.text_norm.specs.Standing.{HeldBehind, PageGoes, StandsInScript, in_element, in_script_comment, is_whole_name, page, slash_waits}

-- No slash waits in a comment.
comment-no-slash : (fs : List ℕ) (a : At) → ((is_empty fs && is_line a) || (is_empty fs && is_block a)) ≡ true → (is_empty fs && is_slash a) ≡ false
comment-no-slash [] (LineComment s) c = refl
comment-no-slash [] (BlockComment s star) c = refl
comment-no-slash [] a c = absurd (true≢false (sym c))
comment-no-slash (n ∷ fs) a c = refl

comment-waits : (s : ScriptState) → in_script_comment s ≡ true → waiting_slash s ≡ []
comment-waits s c = ap (λ (x : Bool). if x && (is_empty s.held && not s.trail.fresh) then codes "/" else []) (comment-no-slash s.literals s.at c)

-- What is written at the end, by whether the script is in a block comment.
cut-as : (s : ScriptState) (block : Bool) → is_outside is_block s ≡ block → script_written_at_cut s ≡ (if block then blank_of s.trail.lines else waiting_slash s)
cut-as s block b = ap (λ (x : Bool). if x then blank_of s.trail.lines else waiting_slash s) b

no-block : (x y : Bool) → (x || y) ≡ false → y ≡ false
no-block true y c = absurd (true≢false c)
no-block false y c = c

-- By what is written at the end the page comes here: to where it would be by the path's bytes, and in a comment to no whole name.
abbrev pub EndsAt : (comment : Bool) → Element → (raw there : Pending) → Type 0
EndsAt true e raw there = is_whole_name e there ≡ false
EndsAt false e raw there = there ≡ raw

pub record AtEnd (e : Element) (s : ScriptState) (raw held : Pending) : Type 0 where
  pub there : Pending
  pub goes : PageGoes e held (script_written_at_cut s) there
  pub ends : EndsAt (in_script_comment s) e raw there

ends-as : (e : Element) (s : ScriptState) (raw there : Pending) (c : Bool) → in_script_comment s ≡ c → EndsAt c e raw there → EndsAt (in_script_comment s) e raw there
ends-as e s raw there c q r = subst (λ (d : Bool). EndsAt d e raw there) (sym q) r

end-in-comment : (e : Element) (s : ScriptState) (raw held : Pending) (block : Bool) → in_script_comment s ≡ true → is_outside is_block s ≡ block → is_whole_name e held ≡ false → AtEnd e s raw held
end-in-comment e s raw held true c b w = record {
  there = Nothing;
  goes = subst (λ (out : List ℕ). PageGoes e held out Nothing) (sym (cut-as s true b)) (blank-goes e s.trail.lines held w);
  ends = ends-as e s raw Nothing true c refl;
}
end-in-comment e s raw held false c b w = record {
  there = held;
  goes = subst (λ (out : List ℕ). PageGoes e held out held) (sym (cut-as s false b ∙ comment-waits s c)) refl;
  ends = ends-as e s raw held true c w;
}

end-in-code : (e : Element) (s : ScriptState) (raw held : Pending) (w : Bool) → in_script_comment s ≡ false → slash_waits s ≡ w → RawBehind false w e raw held → AtEnd e s raw held
end-in-code e s raw held true c w r = record {
  there = raw;
  goes = subst (λ (out : List ℕ). PageGoes e held out raw) (sym (cut-as s false (no-block (is_outside is_line s) (is_outside is_block s) c) ∙ waiting-is s true w)) r.1;
  ends = ends-as e s raw raw false c refl;
}
end-in-code e s raw held false c w r = record {
  there = raw;
  goes = subst (λ (out : List ℕ). PageGoes e held out raw) (sym (cut-as s false (no-block (is_outside is_line s) (is_outside is_block s) c) ∙ waiting-is s false w)) r;
  ends = ends-as e s raw raw false c refl;
}

at-end-by : (e : Element) (s : ScriptState) (raw held : Pending) (c : Bool) → in_script_comment s ≡ c → RawBehind c (slash_waits s) e raw held → AtEnd e s raw held
at-end-by e s raw held true c r = end-in-comment e s raw held (is_outside is_block s) c refl r
at-end-by e s raw held false c r = end-in-code e s raw held (slash_waits s) c refl r

pub at-end : (e : Element) (s : ScriptState) (raw held : Pending) → RawBehind (in_script_comment s) (slash_waits s) e raw held → AtEnd e s raw held
at-end e s raw held r = at-end-by e s raw held (in_script_comment s) refl r

-- Before an end tag what the page has pending may be anything that the end of the script leads on.
pub ends-anywhere : (e : Element) (s : ScriptState) (h held : Pending) (c w : Bool) → in_script_comment s ≡ c → slash_waits s ≡ w → HeldBehind c w e h held s → (raw : Pending) × RawBehind (in_script_comment s) (slash_waits s) e raw held
ends-anywhere e s h held true w p q n = (Nothing, lands-as e s Nothing held true w p q n)
ends-anywhere e s h held false true p q n = (let k = slash-goes e held n.0 in (k.0, lands-as e s k.0 held false true p q (n.0, (k.0, k.1, refl))))
ends-anywhere e s h held false false p q n = (held, lands-as e s held held false false p q refl)

-- The page reads what is written before the byte that ends the name.
pub record BeforeEnd (s : ScriptState) (e : Element) (letters : List ℕ) (t : List LexEvent) (d : Config ValueState) : Type 0 where
  pub there : ScriptState
  pub told : List LexEvent
  pub at : page languages (script_written_at_cut s ++ (codes "</" ++ letters)) d ≡ config (in_element e (OfScript there) (PendingName letters)) told
  pub same : languages.ends (OfScript there) told ≡ languages.ends (OfScript s) t

pub before-end : ScriptStandsLaws LexEvent InsideScript → (e : Element) (s : ScriptState) (letters : List ℕ) (t : List LexEvent) (d : Config ValueState) → script_may_end s ≡ true
    → PageGoes e Nothing (codes "</" ++ letters) (PendingName letters) → StandsInScript e s (PendingName letters) t d → BeforeEnd s e letters t d
before-end laws e s letters t d m goes l =
    let name = codes "</" ++ letters in
    let cut = script_written_at_cut s in
    let r = ends-anywhere e s (PendingName letters) l.held (in_script_comment s) (slash_waits s) refl refl l.nothing in
    let k = at-end e s r.0 l.held r.1 in
    let x = page-exact (cut ++ name) e l.held (PendingName letters) l.there l.told
    (goes-append cut name e l.held k.there (PendingName letters) k.goes (goes-from (47 ∷ letters) e k.there (PendingName letters) goes)) in
    let q = read_page x.read (page_script l.there l.told) in
    let is : x.read ≡ pending_bytes l.held ++ cut = append_cancel_right x.read (pending_bytes l.held ++ cut) name (x.bytes ∙ sym (append_assoc (pending_bytes l.held) cut name)) in
    record {
      there = q.state;
      told = q.told;
      at = ap (page languages (cut ++ name)) l.at ∙ x.at;
      same = ap (λ (bytes : List ℕ). (let z = read_page bytes (page_script l.there l.told) in languages.ends (OfScript z.state) z.told)) is
          ∙ ap (λ (z : PageScript LexEvent). languages.ends (OfScript z.state) z.told) (read-page-append (pending_bytes l.held) cut (page_script l.there l.told))
          ∙ laws.ends s t (read_page (pending_bytes l.held) (page_script l.there l.told)) l.stands m;
    }

-- and the byte
pub end-tag : ScriptStandsLaws LexEvent InsideScript → (e : Element) (s : ScriptState) (h : Pending) (letters : List ℕ) (c : Class) (b : ℕ) (t : List LexEvent) (d : Config ValueState) → class_of b ≡ c
    → script_may_end s ≡ true → script_step true e h c b ≡ EndsContent letters → PageGoes e Nothing (codes "</" ++ letters) (PendingName letters) → StandsInScript e s (PendingName letters) t d
    → page languages (script_written_at_cut s ++ ((codes "</" ++ letters) ++ b ∷ [])) d ≡ config (behind_end_tag c) (emits_behind_end_tag c (tag_name_bytes letters (EndTagBegins ∷ languages.ends (OfScript s) t)))
end-tag laws e s h letters c b t d k m step goes l =
    let x = before-end laws e s letters t d m goes l in
    let cut = script_written_at_cut s in
    let name = codes "</" ++ letters in
    let same = ap (λ (g : Pending). script_step true e g c b) (sym (step-ends e h c b letters step).0) ∙ step in
    ap (λ (out : List ℕ). page languages out d) (sym (append_assoc cut name (b ∷ [])))
    ∙ on languages (cut ++ name) (b ∷ []) d _ x.at
    ∙ ap (λ (z : Class). (let y = script_step true e (PendingName letters) z b in config (next_by_step languages y z e (OfScript x.there)) (emits_by_step languages y z (OfScript x.there) x.told))) k
    ∙ ap (λ (z : ScriptStep). config (next_by_step languages z c e (OfScript x.there)) (emits_by_step languages z c (OfScript x.there) x.told)) same
    ∙ ap (λ (u : List LexEvent). config (behind_end_tag c) (emits_behind_end_tag c (tag_name_bytes letters (EndTagBegins ∷ u)))) x.same
