-- What each act keeps, and so what every list of acts keeps.
use Rattle.std.proofs.Common.{◌≡◌, ℕ, zero, suc, ◌+◌, ◌-◌, ◌<◌, ◌≤◌, List, [], ◌∷◌, ◌++◌, length, max, Some, slice_get, slice_index, slice_set, refl, ◌∙◌, subst, arith, length-append, length-set}
use Rattle.std.proofs.lemmas.List.{get_or_append_left, get_or-set_same}
use Rattle.std.proofs.lemmas.List.Elements.{All-weaker, All-set, All-push}
use Rattle.set_core.specs.Publications.{Publication, IsPublication, IsViewer, seen_by}
use Rattle.set_core.specs.Acts.{Act, publish, refuse, add_viewer, enter, tell, learn, ActMay, after_act, ActLeads}
use Rattle.set_core.specs.Laws.{ActKeeps, ActsKeep, NumbersNeverFall, LearntIsLeast, KeyStays, LastMayEnter}
use Rattle.set_core.proofs.Prefixes.{begins_self, begins_trans, begins_get, is_there}

number_seen : {K : Type 0} (p : Publication K) (viewer : ℕ) → IsPublication p → IsViewer p viewer → (0 < seen_by p viewer) × (seen_by p viewer ≤ length p.keys)
number_seen p viewer is v = is.numbers viewer 0 v

keeps_itself : {K : Type 0} (p : Publication K) → IsPublication p → ActKeeps p p
keeps_itself p is = record { is = is; keys = begins_self p.keys; viewers = omega arith; seen = λ viewer v. omega arith }

seen_more : (seen : List ℕ) (viewer number other : ℕ) → viewer < length seen → slice_index seen viewer ≤ number → slice_index seen other ≤ slice_index (slice_set seen viewer number) other
seen_more [] viewer number other v more = absurd (omega arith)
seen_more (n ∷ seen) zero number zero v more = more
seen_more (n ∷ seen) zero number (suc other) v more = omega arith
seen_more (n ∷ seen) (suc viewer) number zero v more = omega arith
seen_more (n ∷ seen) (suc viewer) number (suc other) v more = seen_more seen viewer number other (omega arith) more

-- a viewer has now seen a greater number
sees : {K : Type 0} (p : Publication K) (viewer number : ℕ) → IsPublication p → IsViewer p viewer → seen_by p viewer ≤ number → number ≤ length p.keys
    → ActKeeps p (record { keys = p.keys; seen = slice_set p.seen viewer number })
sees p viewer number is v more most =
    let mine = number_seen p viewer is v in
    record {
      is = record { some = is.some; numbers = All-set (λ n. (0 < n) × (n ≤ length p.keys)) p.seen viewer number (omega (arith, mine.0), most) is.numbers };
      keys = begins_self p.keys;
      viewers = omega (arith, length-set p.seen viewer number);
      seen = λ other o. seen_more p.seen viewer number other v more;
    }

pub keeps_one : {K : Type 0} (p : Publication K) (act : Act K) → IsPublication p → ActMay p act → ActKeeps p (after_act p act)
keeps_one p (publish key) is may =
    let more : length (p.keys ++ key ∷ []) ≡ length p.keys + 1 = length-append p.keys (key ∷ []) in
    record {
      is = record {
        some = omega (arith, more);
        numbers = All-weaker (λ n. (0 < n) × (n ≤ length p.keys)) (λ n. (0 < n) × (n ≤ length (p.keys ++ key ∷ []))) (λ n h. (h.0, omega (arith, more, h.1))) p.seen is.numbers;
      };
      keys = (key ∷ [], refl);
      viewers = omega arith;
      seen = λ viewer v. omega arith;
    }
keeps_one p refuse is may = keeps_itself p is
keeps_one p add_viewer is may =
    record {
      is = record { some = is.some; numbers = All-push (λ n. (0 < n) × (n ≤ length p.keys)) p.seen 1 is.numbers (omega arith, omega (arith, is.some)) };
      keys = begins_self p.keys;
      viewers = omega (arith, length-append p.seen (1 ∷ []));
      seen = λ viewer v. omega (arith, get_or_append_left p.seen (1 ∷ []) 0 viewer v);
    }
keeps_one p (enter viewer number) is may = sees p viewer number is may.0 may.1.0 may.1.1
keeps_one p tell is may = keeps_itself p is
keeps_one p (learn viewer number) is may =
    sees p viewer (max (seen_by p viewer) number) is may.0 (omega arith) (omega (arith, (number_seen p viewer is may.0).1, may.1))

keeps_both : {K : Type 0} (p q r : Publication K) → ActKeeps p q → ActKeeps q r → ActKeeps p r
keeps_both p q r one two = record {
  is = two.is;
  keys = begins_trans p.keys q.keys r.keys one.keys two.keys;
  viewers = omega (arith, one.viewers, two.viewers);
  seen = λ viewer v. omega (arith, one.seen viewer v, two.seen viewer (omega (arith, v, one.viewers)));
}

pub the_acts_keep : {K : Type 0} → ActsKeep K
the_acts_keep p q [] is leads = subst (λ r. ActKeeps p r) leads (keeps_itself p is)
the_acts_keep p q (act ∷ acts) is leads =
    let one = keeps_one p act is leads.0 in
    keeps_both p (after_act p act) q one (the_acts_keep (after_act p act) q acts one.is leads.1)

-- what a viewer has seen after acts that begin with one of its own
seen_later : {K : Type 0} (p q : Publication K) (viewer number : ℕ) (acts : List (Act K)) → IsPublication p → IsViewer p viewer
    → ActKeeps p (record { keys = p.keys; seen = slice_set p.seen viewer number }) → ActLeads (record { keys = p.keys; seen = slice_set p.seen viewer number }) acts q → number ≤ seen_by q viewer
seen_later {K} p q viewer number acts is v keeps leads =
    let r : Publication K = record { keys = p.keys; seen = slice_set p.seen viewer number } in
    let here : slice_index (slice_set p.seen viewer number) viewer ≡ number = get_or-set_same p.seen viewer number 0 v in
    let later : slice_index (slice_set p.seen viewer number) viewer ≤ seen_by q viewer = (the_acts_keep r q acts keeps.is leads).seen viewer (omega (arith, v, keeps.viewers)) in
    omega (arith, here, later)

pub the_numbers_never_fall : {K : Type 0} → NumbersNeverFall K
the_numbers_never_fall p q viewer first then acts is leads may =
    omega (arith, may.0, seen_later p q viewer first acts is leads.0.0 (keeps_one p (enter viewer first) is leads.0) leads.1)

pub the_learnt_is_least : {K : Type 0} → LearntIsLeast K
the_learnt_is_least p q viewer learnt then acts is leads may =
    let most : max (seen_by p viewer) learnt ≤ seen_by q viewer = seen_later p q viewer (max (seen_by p viewer) learnt) acts is leads.0.0 (keeps_one p (learn viewer learnt) is leads.0) leads.1 in
    omega (arith, may.0, most)

pub the_key_stays : {K : Type 0} → KeyStays K
the_key_stays p q viewer number acts is v may leads =
    let low : number - 1 < length p.keys = omega (arith, may.0, may.1, (number_seen p viewer is v).0) in
    let key = is_there p.keys (number - 1) low in
    let later : slice_get q.keys (number - 1) ≡ Some key.0 = begins_get p.keys q.keys (number - 1) (the_acts_keep p q acts is leads).keys low ∙ key.1 in
    rw key.1 later

pub the_last_may_enter : {K : Type 0} → LastMayEnter K
the_last_may_enter p viewer is v = let mine = number_seen p viewer is v in ((mine.1, omega arith), (omega arith, mine.1))
