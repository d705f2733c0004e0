-- Where a set accepts characters: each path in it is accepted, and each member behind them comes from one before.
use Rattle.std.proofs.Common.{◌≡◌, ◌++◌, ℕ, true, List, [], ◌∷◌, Option, Some, None, option_map, Ok, refl, sym, ap, ◌∙◌, subst}
use Rattle.std.specs.Prelude.{encode_utf8}
use Rattle.place_core.specs.page.Tags.{refusal_code}
use Rattle.place_core.specs.place.LanguagePlaces.{parts_have}
use Rattle.place_core.specs.place.UrlParts.{parts_of}
use Rattle.place_core.specs.declared.code.Code.{Code}
use Rattle.place_core.specs.declared.member.Member.{Member}
use Rattle.place_core.specs.declared.mode.Mode.{Mode}
use Rattle.place_core.specs.declared.mode.Mode.TheVariants as mode
use Rattle.place_core.specs.declared.parts.Parts.{Parts}
use Rattle.place_core.specs.declared.step.Step.TheVariants as step
use Rattle.url_lexer.specs.Classes.{url_class_of}
use Rattle.url_lexer.specs.States.{Url, feed_url}
use Rattle.url_step.specs.PartSets.{PartsBelow, parts_next, parts_error}
use Rattle.url_step.specs.PartTexts.{UrlText, point_next, point_behind, unless_byte_refused, bytes_error, scalar_of, node_end, text_end, place_behind, characters_from}
use Rattle.url_step.specs.TextLaws.{text_bytes, UrlAnswers, TextsCover, IsTextOrigin, TextsComeFrom}
use Rattle.url_step.specs.declared.text_point.OpenTriple.{OpenTriple}
use Rattle.url_step.specs.declared.text_point.OpenTriple.TheVariants as triple
use Rattle.url_step.specs.declared.text_point.TextPoint.{TextPoint}
use Rattle.url_step.proofs.Covering.{covers-parts}
use Rattle.url_step.proofs.OneText.{exact-on-one-text}
use Rattle.url_step.proofs.Origins.{parts-come-from}
use Rattle.url_step.proofs.TextGrowth.{unless-none, none-named, accepts, same-inside, texts-grow}

-- the set of a path is below the set, so that it comes to one below, which is that of the path
pub texts-cover : TextsCover
texts-cover m cs s b u n h k =
    let a = texts-grow m cs (parts_of u.part) s b h k in
    let one = subst (UrlAnswers m cs u) a.1 (exact-on-one-text m cs u n) in
    record { accepted = one.accepted; ends = one.ends; part = subst (λ (z : Parts). PartsBelow z b) one.stands a.2 }

-- of one byte after another
behind-append : (xs ys : List ℕ) (x : TextPoint) → point_behind x (xs ++ ys) ≡ point_behind (point_behind x xs) ys
behind-append [] ys x = refl
behind-append (b ∷ xs) ys x = behind-append xs ys (point_next x b)

none-append : (xs ys : List ℕ) (x : TextPoint) → bytes_error x.parts xs ≡ None → bytes_error (point_behind x xs).parts ys ≡ None
    → bytes_error x.parts (xs ++ ys) ≡ None
none-append [] ys x h k = k
none-append (b ∷ xs) ys x h k =
    let c = url_class_of b in
    let o = option_map refusal_code (parts_error x.parts c) in
    let both = unless-none o (bytes_error (parts_next x.parts c b) xs) h in
    ap (λ (r : Option Code). unless_byte_refused r (bytes_error (parts_next x.parts c b) (xs ++ ys))) both.0 ∙ none-append xs ys (point_next x b) both.1 k

bytes-from : (bs : List ℕ) (x : TextPoint) (y : Member) → bytes_error x.parts bs ≡ None → parts_have (point_behind x bs).parts y ≡ true
    → (w : Member) × IsTextOrigin bs x.parts y w
bytes-from [] x y e h = (y, record { has = h; leads = λ u i k. k })
bytes-from (b ∷ bs) x y e h =
    let c = url_class_of b in
    let both = unless-none (option_map refusal_code (parts_error x.parts c)) (bytes_error (parts_next x.parts c b) bs) e in
    let none = none-named (parts_error x.parts c) both.0 in
    let o = bytes-from bs (point_next x b) y both.1 h in
    let p = parts-come-from x.parts c b o.0 none o.1.has in (
      p.0,
      record {
        has = p.1.has;
        leads = λ u i k. o.1.leads (feed_url u b) ((covers-parts x.parts u.part i).next c b none) (p.1.leads u.part i k);
      },
    )

-- characters that are accepted: none of their bytes is refused, and they come to the set behind these
node-inside : (t : OpenTriple) (end : ℕ) (s b : Parts) → node_end t end s ≡ Ok (step.Inside b) → s ≡ b
node-inside triple.None end s b h = same-inside s b (Ok (step.Inside s)) refl h
node-inside (triple.Percent p) end s b h = cc
node-inside (triple.Digit p) end s b h = cc

end-inside : (m : Mode) (end : ℕ) (x : TextPoint) (b : Parts) → text_end m end x ≡ Ok (step.Inside b) → x.parts ≡ b
end-inside mode.Whole end x b h = same-inside x.parts b (Ok (step.Inside x.parts)) refl h
end-inside mode.Open end x b h = node-inside x.triple end x.parts b h
end-inside mode.Element end x b h = node-inside x.triple end x.parts b h

characters-inside : (m : Mode) (cs : List (ℕ × ℕ)) (end : ℕ) (x : TextPoint) (b : Parts) → characters_from m end cs x ≡ Ok (step.Inside b)
    → (bytes_error x.parts (text_bytes cs) ≡ None) × ((point_behind x (text_bytes cs)).parts ≡ b)
characters-inside m [] end x b h = (refl, end-inside m end x b h)
characters-inside m (c ∷ cs) end x b h =
    let bs = encode_utf8 (scalar_of c.0) in
    let both = accepts (bytes_error x.parts bs) c.1 x.parts b (characters_from m (place_behind c.1) cs (point_behind x bs)) h in
    let rest = characters-inside m cs (place_behind c.1) (point_behind x bs) b both.1 in (
      none-append bs (text_bytes cs) x both.0 rest.0,
      ap (λ (z : TextPoint). z.parts) (behind-append bs (text_bytes cs) x) ∙ rest.1,
    )

pub texts-come-from : TextsComeFrom
texts-come-from m cs s b y e h =
    let x : TextPoint = record { parts = s; triple = triple.None } in
    let inside = characters-inside m cs 0 x b e in
    bytes-from (text_bytes cs) x y inside.0 (ap (λ (z : Parts). parts_have z y) inside.1 ∙ h)
