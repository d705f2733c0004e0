-- No answer depends on more of a word than is kept.
use Rattle.std.proofs.Common.{◌≡◌, ◌∙◌, ℕ, ◌&&◌, Bool, true, false, not, List, [], ◌∷◌, None, refl, sym, ap}
use Rattle.js_lexer.specs.Classes.{class_of}
use Rattle.js_lexer.specs.Feeding.{read_at, held_at, feed_script, points, point_of, script_moved}
use Rattle.js_lexer.specs.Refusals.{first_script_cause, refusal_outside, end_refusal_at}
use Rattle.js_lexer.specs.States.{At, Code, Word, Number, Pluses, Minuses, Slash, LineComment, BlockComment, InString, InRegexp, InTemplate, TooDeep, ScriptPoint, point, ScriptState, Trail}
use Rattle.js_lexer.specs.Steps.{script_next}
use Rattle.js_lexer.specs.Trails.{is_empty, next_trail}
use Rattle.js_lexer.specs.WhiteSpace.{ClassedByte}
use Rattle.js_lexer.specs.declared.class.ScriptClass.{ScriptClass}
use Rattle.js_lexer.specs.declared.sense.Sense.{Sense}
use Rattle.js_lexer.specs.declared.sense.Sense.TheVariants as sense
use Rattle.place_core.specs.place.LanguagePlaces.{both_senses}
use Rattle.js_step.specs.KeptWordLaws.{KeptWordsSuffice}
use Rattle.js_step.specs.KeptWords.{kept_word, kept_at, kept_point, kept_state, kept_scan}
use Rattle.js_step.specs.ScriptScans.{ScriptScan, script_scan, script_one_sense, script_at_in, script_in_sense, script_sense_at, script_sense_next, script_tails_next, script_scan_next, script_two_senses, script_senses_differ, script_tails_error, script_scan_error, script_slash_error, script_scan_cut_error, script_scan_end_error, script_scan_place, script_scan_shown}
use Rattle.js_step.proofs.KeptScans.{of-kept, sense-at-kept, trail-kept}
use Rattle.js_step.proofs.KeptWordSteps.{next-along, take-again-same}
use Rattle.place_core.specs.place.ScriptParts.{script_senses}

abbrev with-at : ScriptScan → At → ScriptScan
with-at n a = script_scan n.senses n.before n.star (record { literals = n.state.literals; at = a; held = n.state.held; trail = n.state.trail })

-- what is refused
two-word : (k : Bool) (fs w : List ℕ) (c : ScriptClass) → script_two_senses k fs (Word w) c ≡ None
two-word true [] w c = refl
two-word true (n ∷ fs) w c = refl
two-word false fs w c = refl

outside-word : (fs w v h : List ℕ) (t : Trail) (element : Bool) (c : ScriptClass) (b : ℕ)
    → refusal_outside fs element (record { literals = fs; at = Word w; held = h; trail = t }) c b ≡ refusal_outside fs element (record { literals = fs; at = Word v; held = h; trail = t }) c b
outside-word [] w v h t element c b = refl
outside-word (n ∷ fs) w v h t element c b = refl

error-kept : (n : ScriptScan) (element : Bool) (b : ℕ) → script_scan_error element (kept_scan n) b ≡ script_scan_error element n b
error-kept n element b =
    of-kept (λ (a : At). script_scan_error element (with-at n a) b) (λ w i.
    first_script_cause (script_tails_error (with-at n (Word w)) (class_of b) b)
    (first_script_cause ((two-word (script_senses_differ n.senses) n.state.literals (kept_word w) (class_of b) ∙ sym (two-word (script_senses_differ n.senses) n.state.literals w (class_of b))) i)
    (outside-word n.state.literals (kept_word w) w n.state.held n.state.trail element (class_of b) b i)))
    n.state.at

slash-word : (k : Bool) (fs w : List ℕ) → script_slash_error k fs (Word w) ≡ None
slash-word true [] w = refl
slash-word true (n ∷ fs) w = refl
slash-word false fs w = refl

cut-kept : (n : ScriptScan) → script_scan_cut_error (kept_scan n) ≡ script_scan_cut_error n
cut-kept n =
    of-kept (λ (a : At). script_scan_cut_error (with-at n a))
    (λ w. rw (slash-word (script_senses_differ n.senses) n.state.literals (kept_word w), slash-word (script_senses_differ n.senses) n.state.literals w) refl) n.state.at

end-word : (fs w v : List ℕ) (t : Trail) → end_refusal_at fs (Word w) t ≡ end_refusal_at fs (Word v) t
end-word [] w v t = refl
end-word (n ∷ fs) w v t = refl

end-kept : (n : ScriptScan) → script_scan_end_error (kept_scan n) ≡ script_scan_end_error n
end-kept n =
    of-kept (λ (a : At). script_scan_end_error (with-at n a))
    (λ w. rw (slash-word (script_senses_differ n.senses) n.state.literals (kept_word w), slash-word (script_senses_differ n.senses) n.state.literals w)
    (end-word n.state.literals (kept_word w) w n.state.trail)) n.state.at

place-kept : (n : ScriptScan) → script_scan_place (kept_scan n) ≡ script_scan_place n
place-kept n = of-kept (λ (a : At). script_scan_place (with-at n a)) (λ w. refl) n.state.at

shown-kept : (n : ScriptScan) → script_scan_shown (kept_scan n) ≡ script_scan_shown n
shown-kept n = of-kept (λ (a : At). script_scan_shown (with-at n a)) (λ w. refl) n.state.at

-- where a byte leads
points-along : (xs : List ClassedByte) (p q : ScriptPoint) → kept_point p ≡ kept_point q → kept_point (points xs p) ≡ kept_point (points xs q)
points-along [] p q h = h
points-along (x ∷ xs) p q h =
    points-along xs _ _ (next-along p (kept_point p) x.class x.byte refl ∙ (ap (λ (r : ScriptPoint). kept_point (script_next r.literals r.at x.class x.byte)) h
    ∙ sym (next-along q (kept_point q) x.class x.byte refl)))

again : (a : At) → kept_at (kept_at a) ≡ kept_at a
again a = of-kept kept_at (λ w. ap Word (take-again-same w)) a

moved-kept : (v : ScriptState) (some : Bool) (p q : ScriptPoint) (h : List ℕ) (b : ℕ) → kept_point p ≡ kept_point q → kept_state (script_moved v p some h b) ≡ kept_state (script_moved v q some h b)
moved-kept v some p q h b e =
    let trail = sym (trail-kept some v.trail (point_of v) p b) ∙ (ap (λ (r : ScriptPoint). next_trail some v.trail (point_of v) r b) e ∙ trail-kept some v.trail (point_of v) q b) in
    λ i. record { literals = (e i).literals; at = (e i).at; held = h; trail = trail i }

abbrev state-at : ScriptState → At → ScriptState
state-at v a = record { literals = v.literals; at = a; held = v.held; trail = v.trail }

feed-kept : (v : ScriptState) (b : ℕ) → kept_state (feed_script (kept_state v) b) ≡ kept_state (feed_script v b)
feed-kept v b =
    of-kept (λ (a : At). kept_state (feed_script (state-at v a) b)) (λ w.
    moved-kept (state-at v (Word w)) (not (is_empty (read_at true v.held (class_of b) b)))
    (points (read_at true v.held (class_of b) b) (point v.literals (Word (kept_word w)))) (points (read_at true v.held (class_of b) b) (point v.literals (Word w)))
    (held_at true v.held b) b (points-along (read_at true v.held (class_of b) b) _ _ (ap (λ (a : At). point v.literals a) (again (Word w)))))
    v.at

in-kept : (s : Sense) (a : At) → script_at_in s (kept_at a) ≡ kept_at (script_at_in s a)
in-kept s (Code t) = refl
in-kept s (Word w) = refl
in-kept s Number = refl
in-kept s (Pluses odd) = refl
in-kept s (Minuses odd) = refl
in-kept s (Slash t) = refl
in-kept s (LineComment t) = refl
in-kept s (BlockComment t star) = refl
in-kept s (InString q e) = refl
in-kept s (InRegexp k e) = refl
in-kept s (InTemplate e d) = refl
in-kept s TooDeep = refl

fed-kept : (s : Sense) (v : ScriptState) (b : ℕ) → kept_state (feed_script (script_in_sense s (kept_state v)) b) ≡ kept_state (feed_script (script_in_sense s v) b)
fed-kept s v b = ap (λ (a : At). kept_state (feed_script (state-at v a) b)) (in-kept s v.at) ∙ feed-kept (script_in_sense s v) b

sense-kept : (k : Bool) (s : Sense) (v : ScriptState) (b : ℕ) → script_sense_next k s (kept_state v) b ≡ script_sense_next k s v b
sense-kept true s v b =
    ap script_senses (sym (sense-at-kept (feed_script (script_in_sense s (kept_state v)) b).at)
    ∙ (ap (λ (x : ScriptState). script_sense_at x.at) (fed-kept s v b) ∙ sense-at-kept (feed_script (script_in_sense s v) b).at))
sense-kept false s v b = refl

next-kept : (n : ScriptScan) (b : ℕ) → kept_scan (script_scan_next (kept_scan n) b) ≡ kept_scan (script_scan_next n b)
next-kept n b =
    let state = fed-kept (script_one_sense n.senses) n.state b in
    λ i. script_scan (both_senses (sense-kept n.senses.re sense.Re n.state b i) (both_senses (sense-kept n.senses.div sense.Div n.state b i) (sense-kept n.senses.brace sense.Brace n.state b i)))
    (script_tails_next (state i).trail.fresh n.before) ((state i).trail.fresh && n.star) (state i)

pub kept-words-suffice : KeptWordsSuffice
kept-words-suffice n = record {
  error = error-kept n;
  next = next-kept n;
  cut_error = cut-kept n;
  end_error = end-kept n;
  place = place-kept n;
  shown = shown-kept n;
}
