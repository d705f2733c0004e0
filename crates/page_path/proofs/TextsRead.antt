-- An execution gives a text for each hole of its path, so that the page of its path reads with these texts.
use Rattle.std.proofs.Common.{◌≡◌, ℕ, suc, List, [], ◌∷◌, length, refl, sym, ap, ◌∙◌}
use Rattle.page_path.specs.Laws.{SoundPagesReadWithTheirTexts}
use Rattle.page_path.specs.Soundness.{event_texts, path_symbols, texts_of}
use Rattle.page_path.specs.Taken.{move_sign, signs}
use Rattle.text_norm.proofs.FilledReadings.{filled-paths-are-readings}
use Rattle.text_norm.specs.FilledReadings.{holes_in}
use Rattle.tpl_events.specs.Events.{Emission, ExecEvent, enters, gives_hole, gives_text, leaves}
use Rattle.tpl_exec.specs.Meaning.{meaning}
use Rattle.tpl_paths.specs.Edges.{calls, fills, passes, picks, writes}
use Rattle.tpl_paths.specs.Paths.{Move, Sign, along, back, hole_of, signs_of}

abbrev hole_signs : List Sign → ℕ
hole_signs [] = 0
hole_signs (hole_of n ∷ xs) = suc (hole_signs xs)
hole_signs (x ∷ xs) = hole_signs xs

path-holes : (ms : List Move) → holes_in (path_symbols ms) ≡ hole_signs (signs_of ms)
path-holes [] = refl
path-holes (along (writes n bytes to) ∷ ms) = path-holes ms
path-holes (along (fills n pipe to) ∷ ms) = ap suc (path-holes ms)
path-holes (along (calls n name to) ∷ ms) = path-holes ms
path-holes (along (picks from choice to) ∷ ms) = path-holes ms
path-holes (along (passes from to) ∷ ms) = path-holes ms
path-holes (back ∷ ms) = path-holes ms

with-event : (e : ExecEvent) (gs : List Emission) → length (texts_of gs) ≡ hole_signs (signs gs)
    → length (event_texts e (texts_of gs)) ≡ hole_signs (move_sign e ∷ signs gs)
with-event (gives_text n) gs h = h
with-event (gives_hole n datum) gs h = ap suc h
with-event (enters n) gs h = h
with-event leaves gs h = h

event-holes : (gs : List Emission) → length (texts_of gs) ≡ hole_signs (signs gs)
event-holes [] = refl
event-holes (g ∷ gs) = with-event g.event gs (event-holes gs)

pub sound-pages-read-with-their-texts : SoundPagesReadWithTheirTexts
sound-pages-read-with-their-texts forest root datum page sound none =
    let path = sound.takes.path in
    let events = (meaning forest root datum).events in
    let enough = path-holes path ∙ ap hole_signs sound.takes.same ∙ sym (event-holes events) in
    filled-paths-are-readings (path_symbols path) (texts_of events) page enough none sound.raw
