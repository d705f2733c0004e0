-- On the set of one path, what characters come to and what is refused of them is the path's own.
use Rattle.std.proofs.Common.{◌≡◌, ◌+◌, ◌++◌, ℕ, List, [], ◌∷◌, Option, Some, None, option_map, length, refl, sym, ap, ◌∙◌, subst, inl, inr, append-nil, append_assoc, length-append}
use Rattle.std.specs.Prelude.{encode_utf8}
use Rattle.place_core.specs.page.Tags.{refusal_code}
use Rattle.place_core.specs.place.UrlParts.{parts_of}
use Rattle.place_core.specs.declared.code.Code.{Code}
use Rattle.place_core.specs.declared.mode.Mode.{Mode}
use Rattle.place_core.specs.declared.mode.Mode.TheVariants as mode
use Rattle.place_core.specs.declared.parts.Parts.{Parts}
use Rattle.url_lexer.specs.Classes.{url_class_of}
use Rattle.url_lexer.specs.Refusals.{UrlRefusal, url_refuses, url_refuses_cut, refuses_cut_in, partial_escape}
use Rattle.url_lexer.specs.States.{Url, feed_url, feed_all}
use Rattle.url_lexer.specs.Triples.{Triple, NoTriple, AfterPercent, AfterDigit, next_triple, triple_length}
use Rattle.url_lexer.specs.declared.class.UrlClass.{UrlClass}
use Rattle.url_lexer.specs.declared.class.UrlClass.TheVariants as class
use Rattle.url_step.specs.PartSets.{parts_next}
use Rattle.url_step.specs.PartTexts.{UrlText, triple_next, point_next, point_behind, unless_byte_refused, bytes_error, scalar_of, node_end, text_end, place_behind, unless_character_refused, characters_from}
use Rattle.url_step.specs.TextLaws.{text_bytes, place_after, url_error, url_end_error, UrlAnswers, IsExactOnOneText}
use Rattle.url_step.specs.declared.text_point.OpenTriple.{OpenTriple}
use Rattle.url_step.specs.declared.text_point.OpenTriple.TheVariants as triple
use Rattle.url_step.specs.declared.text_point.TextPoint.{TextPoint}
use Rattle.url_step.proofs.OnePath.{one-error, one-next}
use Rattle.url_step.proofs.TextGrowth.{unless-none}

-- The point of a path behind bytes: its part, and its percent triple with the part before it.
record TripleBehind (u : Url) (done : List ℕ) (p : Parts) (w : Triple) : Type 0 where
  read : List ℕ
  since : List ℕ
  stands : (feed_all u done).triple ≡ w
  whole : done ≡ read ++ since
  shown : length since ≡ triple_length w
  before : p ≡ parts_of (feed_all u read).part

abbrev OnTriple : Url → List ℕ → OpenTriple → Type 0
OnTriple u done triple.None = (feed_all u done).triple ≡ NoTriple
OnTriple u done (triple.Percent p) = TripleBehind u done p AfterPercent
OnTriple u done (triple.Digit p) = TripleBehind u done p AfterDigit

record OnPath (u : Url) (done : List ℕ) (x : TextPoint) : Type 0 where
  parts : x.parts ≡ parts_of (feed_all u done).part
  open_triple : OnTriple u done x.triple

feed-append : (xs ys : List ℕ) (u : Url) → feed_all u (xs ++ ys) ≡ feed_all (feed_all u xs) ys
feed-append [] ys u = refl
feed-append (x ∷ xs) ys u = feed-append xs ys (feed_url u x)

on-triple : (u : Url) (done : List ℕ) (b : ℕ) (t : OpenTriple) (s : Parts) (c : UrlClass)
    → (feed_all u (done ++ b ∷ [])).triple ≡ next_triple (feed_all u done).triple c → s ≡ parts_of (feed_all u done).part → OnTriple u done t
    → OnTriple u (done ++ b ∷ []) (triple_next t s c)
on-triple u done b triple.None s class.Percent fed k h = record { read = done; since = b ∷ []; stands = fed; whole = refl; shown = refl; before = k }
on-triple u done b (triple.Percent p) s class.Percent fed k h = record { read = done; since = b ∷ []; stands = fed; whole = refl; shown = refl; before = k }
on-triple u done b (triple.Digit p) s class.Percent fed k h = record { read = done; since = b ∷ []; stands = fed; whole = refl; shown = refl; before = k }
on-triple u done b (triple.Percent p) s class.Hexadecimal fed k h = record {
  read = h.read;
  since = h.since ++ b ∷ [];
  stands = fed ∙ ap (λ (w : Triple). next_triple w class.Hexadecimal) h.stands;
  whole = ap (λ (z : List ℕ). z ++ b ∷ []) h.whole ∙ append_assoc h.read h.since (b ∷ []);
  shown = length-append h.since (b ∷ []) ∙ ap (λ (n : ℕ). n + 1) h.shown;
  before = h.before;
}
on-triple u done b triple.None s c fed k h = fed ∙ ap (λ (w : Triple). next_triple w c) h
on-triple u done b (triple.Percent p) s c fed k h = fed ∙ ap (λ (w : Triple). next_triple w c) h.stands
on-triple u done b (triple.Digit p) s c fed k h = fed ∙ ap (λ (w : Triple). next_triple w c) h.stands

on-next : (u : Url) (done : List ℕ) (x : TextPoint) (b : ℕ) → OnPath u done x → OnPath u (done ++ b ∷ []) (point_next x b)
on-next u done x b h = record {
  parts = ap (λ (s : Parts). parts_next s (url_class_of b) b) h.parts
      ∙ one-next (feed_all u done).part (url_class_of b) b
      ∙ ap (λ (v : Url). parts_of v.part) (sym (feed-append done (b ∷ []) u));
  open_triple = on-triple u done b x.triple x.parts (url_class_of b) (ap (λ (v : Url). v.triple) (feed-append done (b ∷ []) u)) h.parts h.open_triple;
}

on-bytes : (bs : List ℕ) (u : Url) (done : List ℕ) (x : TextPoint) → OnPath u done x → OnPath u (done ++ bs) (point_behind x bs)
on-bytes [] u done x h = subst (λ (d : List ℕ). OnPath u d x) (sym (append-nil done)) h
on-bytes (b ∷ bs) u done x h =
    subst (λ (d : List ℕ). OnPath u d (point_behind (point_next x b) bs)) (append_assoc done (b ∷ []) bs)
    (on-bytes bs u (done ++ b ∷ []) (point_next x b) (on-next u done x b h))

-- what is refused
one-bytes : (bs : List ℕ) (u : Url) → bytes_error (parts_of u.part) bs ≡ url_error u bs
one-bytes [] u = refl
one-bytes (b ∷ bs) u =
    let c = url_class_of b in
    ap (λ (o : Option UrlRefusal). unless_byte_refused (option_map refusal_code o) (bytes_error (parts_next (parts_of u.part) c b) bs)) (one-error u.part c)
    ∙ ap (λ (s : Parts). unless_byte_refused (option_map refusal_code (url_refuses u b)) (bytes_error s bs)) (one-next u.part c b)
    ∙ ap (λ (o : Option Code). unless_byte_refused (option_map refusal_code (url_refuses u b)) o) (one-bytes bs (feed_url u b))

accepted-append : (xs ys : List ℕ) (u : Url) → url_error u xs ≡ None → url_error (feed_all u xs) ys ≡ None → url_error u (xs ++ ys) ≡ None
accepted-append [] ys u h k = k
accepted-append (x ∷ xs) ys u h k =
    let both = unless-none (option_map refusal_code (url_refuses u x)) (url_error (feed_url u x) xs) h in
    ap (λ (o : Option Code). unless_byte_refused o (url_error (feed_url u x) (xs ++ ys))) both.0 ∙ accepted-append xs ys (feed_url u x) both.1 k

-- one more character
text-more : (cs : List (ℕ × ℕ)) (c : ℕ × ℕ) → text_bytes (cs ++ c ∷ []) ≡ text_bytes cs ++ encode_utf8 (scalar_of c.0)
text-more [] c = append-nil (encode_utf8 (scalar_of c.0))
text-more (d ∷ cs) c =
    ap (λ (bs : List ℕ). encode_utf8 (scalar_of d.0) ++ bs) (text-more cs c)
    ∙ sym (append_assoc (encode_utf8 (scalar_of d.0)) (text_bytes cs) (encode_utf8 (scalar_of c.0)))

place-more : (end : ℕ) (cs : List (ℕ × ℕ)) (c : ℕ × ℕ) → place_after end (cs ++ c ∷ []) ≡ place_behind c.1
place-more end [] c = refl
place-more end (d ∷ cs) c = place-more (place_behind d.1) cs c

-- where the characters end
node-one : (m : Mode) → ((v : Url) → url_end_error m v ≡ url_refuses_cut v) → (cs : List (ℕ × ℕ)) (u : Url) (end : ℕ) (t : OpenTriple) (s : Parts)
    → url_error u (text_bytes cs) ≡ None → end ≡ place_after 0 cs → s ≡ parts_of (feed_all u (text_bytes cs)).part → OnTriple u (text_bytes cs) t
    → UrlAnswers m cs u (node_end t end s)
node-one m node cs u end triple.None s none ends k h =
    record { stands = k; accepted = none; ends = node (feed_all u (text_bytes cs)) ∙ ap refuses_cut_in h }
node-one m node cs u end (triple.Percent p) s none ends k h = inr (record {
  read = h.read;
  triple = h.since;
  cut = partial_escape 1;
  whole = h.whole;
  accepted = none;
  refused = node (feed_all u (text_bytes cs)) ∙ ap refuses_cut_in h.stands;
  shown = h.shown;
  named = refl;
  place = ends;
  before = h.before;
})
node-one m node cs u end (triple.Digit p) s none ends k h = inr (record {
  read = h.read;
  triple = h.since;
  cut = partial_escape 2;
  whole = h.whole;
  accepted = none;
  refused = node (feed_all u (text_bytes cs)) ∙ ap refuses_cut_in h.stands;
  shown = h.shown;
  named = refl;
  place = ends;
  before = h.before;
})

end-one : (m : Mode) (cs : List (ℕ × ℕ)) (u : Url) (end : ℕ) (x : TextPoint) → url_error u (text_bytes cs) ≡ None → end ≡ place_after 0 cs
    → OnPath u (text_bytes cs) x → UrlAnswers m cs u (text_end m end x)
end-one mode.Whole cs u end x none ends h = record { stands = h.parts; accepted = none; ends = refl }
end-one mode.Open cs u end x none ends h = node-one mode.Open (λ v. refl) cs u end x.triple x.parts none ends h.parts h.open_triple
end-one mode.Element cs u end x none ends h = node-one mode.Element (λ v. refl) cs u end x.triple x.parts none ends h.parts h.open_triple

-- from behind the characters that have been read
character-one : (m : Mode) (read cs : List (ℕ × ℕ)) (c : ℕ × ℕ) (u : Url) (s : Parts) (r : UrlText) (o : Option Code) → url_error u (text_bytes read) ≡ None
    → s ≡ parts_of (feed_all u (text_bytes read)).part → url_error (feed_all u (text_bytes read)) (encode_utf8 (scalar_of c.0)) ≡ o
    → (url_error (feed_all u (text_bytes read)) (encode_utf8 (scalar_of c.0)) ≡ None → UrlAnswers m (read ++ c ∷ cs) u r)
    → UrlAnswers m (read ++ c ∷ cs) u (unless_character_refused o c.1 s r)
character-one m read cs c u s r None none k e rest = rest e
character-one m read cs c u s r (Some code) none k e rest =
    inl (record { read = read; character = c; rest = cs; whole = refl; accepted = none; refused = e; place = refl; before = k })

from-one : (m : Mode) (cs read : List (ℕ × ℕ)) (u : Url) (end : ℕ) (x : TextPoint) → url_error u (text_bytes read) ≡ None → end ≡ place_after 0 read
    → OnPath u (text_bytes read) x → UrlAnswers m (read ++ cs) u (characters_from m end cs x)
from-one m [] read u end x none ends h =
    subst (λ (z : List (ℕ × ℕ)). UrlAnswers m z u (text_end m end x)) (sym (append-nil read)) (end-one m read u end x none ends h)
from-one m (c ∷ cs) read u end x none ends h =
    let bs = encode_utf8 (scalar_of c.0) in
    character-one m read cs c u x.parts (characters_from m (place_behind c.1) cs (point_behind x bs)) (bytes_error x.parts bs) none h.parts
    (sym (ap (λ (s : Parts). bytes_error s bs) h.parts ∙ one-bytes bs (feed_all u (text_bytes read))))
    (λ e. subst (λ (z : List (ℕ × ℕ)). UrlAnswers m z u (characters_from m (place_behind c.1) cs (point_behind x bs))) (append_assoc read (c ∷ []) cs)
    (from-one m cs (read ++ c ∷ []) u (place_behind c.1) (point_behind x bs)
    (ap (url_error u) (text-more read c) ∙ accepted-append (text_bytes read) bs u none e)
    (sym (place-more 0 read c))
    (subst (λ (d : List ℕ). OnPath u d (point_behind x bs)) (sym (text-more read c)) (on-bytes bs u (text_bytes read) x h))))

pub exact-on-one-text : IsExactOnOneText
exact-on-one-text m cs u h =
    from-one m cs [] u 0 (record { parts = parts_of u.part; triple = triple.None }) refl refl (record { parts = refl; open_triple = h })
