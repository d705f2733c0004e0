-- Where a path is at a place in the element of a script, its page has told what the path has: with what is pending, and in a comment by a space.
use Rattle.std.proofs.Common.{◌≡◌, ℕ, not, true, false, codes, All, List, refl, ap, ◌∙◌}
use Rattle.std.proofs.lemmas.List.Elements.{All-head}
use Rattle.js_lexer.specs.BackLaws.{in_code}
use Rattle.js_lexer.specs.Holes.{script_has_mark}
use Rattle.js_lexer.specs.PageScripts.{PageScript, ScriptStandsAlike, code_behind, comment_blanks, page_script, read_in_page}
use Rattle.js_lexer.specs.States.{At, BlockComment, Code, InRegexp, InString, InTemplate, LineComment, Minuses, Number, Pluses, Slash, TooDeep, Trail, Word}
use Rattle.js_lexer.specs.Trails.{line_ends}
use Rattle.js_lexer.specs.declared.sense.Sense.{Sense}
use Rattle.place_core.specs.page.Classes.{White, class_of}
use Rattle.place_core.specs.page.Contents.{pending_bytes}
use Rattle.place_core.specs.page.Events.{InsideScript, LexEvent}
use Rattle.place_core.specs.page.States.{Config, Nothing, Pending}
use Rattle.place_core.specs.page.Tags.{ValueState, languages}
use Rattle.place_core.specs.place.ScriptParts.{may_begin_text_at}
use Rattle.place_core.specs.declared.element.Element.{Element}
use Rattle.text_norm.proofs.ScriptElementStands.{script-there}
use Rattle.text_norm.proofs.ScriptHoles.{IsComment}
use Rattle.text_norm.proofs.ScriptPages.{PageIsAt, page-reads, read_page, white-goes}
use Rattle.text_norm.specs.Standing.{StandsInScript, is_whole_name, page}
use Rattle.text_norm.specs.StandsLaws.{told_beside, told_there}

class_space : class_of 32 ≡ White
unfolding class_of
class_space = refl

-- by a space the page tells what its script does
space-told : (e : Element) (held : Pending) (p : PageScript LexEvent) (t : List LexEvent) (d : Config ValueState) → is_whole_name e held ≡ false
    → PageIsAt e held p d
    → (read_page (codes " ") p).told ≡ t → (page languages (codes " ") d).emitted ≡ t
space-told e held p t d w l k =
    let r = page-reads (codes " ") e held Nothing p d (Nothing, white-goes e held 32 class_space w, refl) l in
    ap (λ (c : Config ValueState). c.emitted) r.at ∙ ap (λ (q : PageScript LexEvent). q.told) r.behind ∙ k

abbrev BySpace : Sense → List LexEvent → PageScript LexEvent → List ℕ → Type 0
BySpace s t p word = ScriptStandsAlike LexEvent (code_behind s) t (read_in_page InsideScript word p)

by-space : (s : Sense) (t : List LexEvent) (p : PageScript LexEvent) → All (BySpace s t p) comment_blanks → BySpace s t p (codes " ")
by-space s t p h = All-head (BySpace s t p) (codes " ") line_ends h

comment-told : (e : Element) (a : At) (trail : Trail) (t : List LexEvent) (d : Config ValueState) → IsComment a → StandsInScript e (in_code a trail) Nothing t d
    → (page languages (codes " ") d).emitted ≡ t
comment-told e (LineComment s) trail t d c l =
    let at : PageIsAt e l.held (read_page (pending_bytes l.held) (page_script l.there l.told)) d = record { there = l.there; told = l.told; at = l.at; behind = refl } in
    space-told e l.held (read_page (pending_bytes l.held) (page_script l.there l.told)) t d l.nothing at (by-space s t _ l.stands.blank).told
comment-told e (BlockComment s star) trail t d c l =
    let at : PageIsAt e l.held (read_page (pending_bytes l.held) (page_script l.there l.told)) d = record { there = l.there; told = l.told; at = l.at; behind = refl } in
    space-told e l.held (read_page (pending_bytes l.held) (page_script l.there l.told)) t d l.nothing at (by-space s t _ l.stands.blank).told
comment-told e _ trail t d c l = absurd c

open-told : (e : Element) (a : At) (trail : Trail) (t : List LexEvent) (d : Config ValueState) → trail.fresh ≡ true → may_begin_text_at a trail.markup ≡ true
    → (IsComment a → ⊥) → StandsInScript e (in_code a trail) Nothing t d → told_there d d.at ≡ t
open-told e a trail t d f b n l =
    let g = script-there e a trail t d f b n l in
    ap (λ (c : Config ValueState). told_there c c.at) g.at ∙ g.tells

pub script-told-there : (e : Element) (a : At) (trail : Trail) (t : List LexEvent) (d : Config ValueState) → trail.fresh ≡ true
    → may_begin_text_at a trail.markup ≡ true
    → StandsInScript e (in_code a trail) Nothing t d → told_beside (not (script_has_mark (in_code a trail))) d ≡ t
script-told-there e (LineComment s) trail t d f b l = comment-told e (LineComment s) trail t d tt l
script-told-there e (BlockComment s star) trail t d f b l = comment-told e (BlockComment s star) trail t d tt l
script-told-there e (Code s) trail t d f b l = open-told e (Code s) trail t d f b (λ c. c) l
script-told-there e (Word w) trail t d f b l = open-told e (Word w) trail t d f b (λ c. c) l
script-told-there e Number trail t d f b l = open-told e Number trail t d f b (λ c. c) l
script-told-there e (Pluses odd) trail t d f b l = open-told e (Pluses odd) trail t d f b (λ c. c) l
script-told-there e (Minuses odd) trail t d f b l = open-told e (Minuses odd) trail t d f b (λ c. c) l
script-told-there e (Slash s) trail t d f b l = open-told e (Slash s) trail t d f b (λ c. c) l
script-told-there e (InString q i) trail t d f b l = open-told e (InString q i) trail t d f b (λ c. c) l
script-told-there e (InRegexp k i) trail t d f b l = open-told e (InRegexp k i) trail t d f b (λ c. c) l
script-told-there e (InTemplate i k) trail t d f b l = open-told e (InTemplate i k) trail t d f b (λ c. c) l
script-told-there e TooDeep trail t d f b l = open-told e TooDeep trail t d f b (λ c. c) l
