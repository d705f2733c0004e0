-- What a writer gives is what the chart's pair gives, event by event.
use Rattle.std.proofs.Common.{◌≡◌, ℕ, Bool, true, false, List, [], ◌∷◌, ◌++◌, Option, Some, Ok, Err, refl, sym, ap, ◌∙◌, subst}
use Rattle.std.specs.Prelude.{◌||◌, Result, if◌then◌else◌}
use Rattle.css_step.specs.StyleChains.{style_hole_with_chain, style_sans}
use Rattle.css_step.specs.StyleScanViews.{style_hole_answer}
use Rattle.html_step.specs.Holes.{after_hole, block_hole, css_chain, css_holed, element_holed, Holed, last_of, named_by_data, plain_hole, url_chain, url_holed, value_hole}
use Rattle.page_datum.specs.Data.{Data}
use Rattle.page_path.specs.ByChart.{ChartMay, PairMayEnter, MayHole, MayText, pair_pieces, text_pieces}
use Rattle.page_path.specs.Pages.{bytes_in, hole_pieces, holed_pieces}
use Rattle.page_path.specs.Textual.{IsTextAt, IsTextHeld, IsTextual}
use Rattle.page_writer.proofs.OpenPairs.{AreNumbers, number_at, row_at}
use Rattle.page_writer.specs.Outputs.{AreOutputs, by_call, by_chain, output_at, output_in}
use Rattle.page_writer.specs.Writing.{IsCallNode, IsGivenText, IsOrderedChain, IsTextNode, IsTextOutput, IsValue, MayFollow, MayGive, page_open_after, output_pieces, text_output, value_output}
use Rattle.page_writer.specs.declared.output.Output.{Output}
use Rattle.page_writer.specs.declared.output.Output.TheVariants as output
use Rattle.place_flow.specs.Covering.{Pair, sign_pairs}
use Rattle.place_core.specs.declared.body.Body.{Body}
use Rattle.place_core.specs.declared.body.Body.TheVariants as body
use Rattle.place_core.specs.declared.code.Code.{Code}
use Rattle.place_core.specs.declared.css.Css.{Css}
use Rattle.place_core.specs.declared.css.Css.TheVariants as css
use Rattle.place_core.specs.declared.parts.Parts.{Parts}
use Rattle.place_core.specs.declared.place.Place.{Place}
use Rattle.place_core.specs.declared.place.Place.TheVariants as place
use Rattle.place_core.specs.declared.quotes.Quotes.{Quotes}
use Rattle.place_core.specs.declared.quotes.Quotes.TheVariants as quotes
use Rattle.place_core.specs.declared.san.San.{San}
use Rattle.place_core.specs.declared.san.San.TheVariants as san
use Rattle.place_core.specs.declared.tag_place.TagPlace.{TagPlace}
use Rattle.place_core.specs.declared.value_place.ValuePlace.{ValuePlace}
use Rattle.place_infer.specs.ChartViews.{ArePairCalls, ChartData, called_by, holed_chain, pair_at}
use Rattle.place_chart.specs.Exact.{places_of}
use Rattle.text_norm.specs.Scanned.{written_at}
use Rattle.url_step.specs.Chains.{chain_of}
use Rattle.url_step.specs.PartSets.{hole_answer, part_sans}
use Rattle.tpl_events.specs.Events.{ExecEvent, enters, gives_hole, gives_text, leaves}
use Rattle.tpl_paths.specs.Edges.{before, node_kind_at, start_in}
use Rattle.page_path.specs.Taken.{move_sign}
use Rattle.tpl_tree.specs.Forests.{ForestData, number_named}
use Rattle.tpl_tree.specs.declared.node_kind.NodeKind.{NodeKind}
use Rattle.tpl_tree.specs.declared.node_kind.NodeKind.TheVariants as kind

-- the sanitizers of the chain of a place are in order
abbrev pub HasOrderedChain : Holed → Type 0
HasOrderedChain (Ok h) = IsOrderedChain h.1
HasOrderedChain (Err e) = Unit {0}

named_ordered : (b : Bool) (t : TagPlace) → HasOrderedChain (named_by_data b t)
named_ordered true t = tt
named_ordered false t = tt

plain_ordered : (q : Quotes) (v : ValuePlace) → HasOrderedChain (plain_hole q v)
plain_ordered quotes.Dq v = tt
plain_ordered quotes.Sq v = tt
plain_ordered (quotes.Bare b) v = tt

last_follows : (q : Quotes) → MayFollow (last_of q)
last_follows quotes.Dq = tt
last_follows quotes.Sq = tt
last_follows (quotes.Bare b) = tt

url_ordered_by : (start prequery query : Bool) (last : San) → MayFollow last
    → IsOrderedChain (chain_of ((if start then san.UrlFilter ∷ san.UrlNorm ∷ [] else (if prequery then san.UrlNorm ∷ []
    else (if query then san.UrlQuery ∷ [] else san.UrlOpen ∷ []))) ++ last ∷ []))
url_ordered_by true prequery query last f = (tt, (f, tt))
url_ordered_by false true query last f = (f, tt)
url_ordered_by false false true last f = (f, tt)
url_ordered_by false false false last f = (f, tt)

url_ordered : (v : ValuePlace) (parts : Parts) (o : Result Parts Code) → HasOrderedChain (url_holed v parts o)
url_ordered v parts (Ok after) = url_ordered_by parts.start parts.prequery parts.query (last_of v.quotes) (last_follows v.quotes)
url_ordered v parts (Err e) = tt

-- in a style, by its place; in a URL of it by the part; behind a URL no hole is accepted
style_url_ordered : (v : ValuePlace) (c : Css) (parts : Parts) (o : Result Css Code)
    → css_chain c (last_of v.quotes) ≡ url_chain parts (last_of v.quotes) → HasOrderedChain (css_holed v c o)
style_url_ordered v c parts (Ok after) same =
    subst IsOrderedChain (sym same) (url_ordered_by parts.start parts.prequery parts.query (last_of v.quotes) (last_follows v.quotes))
style_url_ordered v c parts (Err e) same = tt

style_ordered : (c : Css) (v : ValuePlace) → HasOrderedChain (css_holed v c (style_hole_answer c))
style_ordered (css.Code tails) v = (last_follows v.quotes, tt)
style_ordered css.Dq v = (last_follows v.quotes, tt)
style_ordered css.Sq v = (last_follows v.quotes, tt)
style_ordered css.UrlFresh v = (tt, (last_follows v.quotes, tt))
style_ordered (css.Url parts) v = style_url_ordered v (css.Url parts) parts (style_hole_answer (css.Url parts)) refl
style_ordered (css.UrlDq parts) v = style_url_ordered v (css.UrlDq parts) parts (style_hole_answer (css.UrlDq parts)) refl
style_ordered (css.UrlSq parts) v = style_url_ordered v (css.UrlSq parts) parts (style_hole_answer (css.UrlSq parts)) refl
style_ordered css.UrlEnd v = tt
style_ordered (css.Comment star) v = (last_follows v.quotes, tt)

-- in the element of a style nothing is behind them
part_ordered_by : (start prequery query : Bool)
    → IsOrderedChain (chain_of (if start then san.UrlFilter ∷ san.UrlNorm ∷ [] else (if prequery then san.UrlNorm ∷ []
    else (if query then san.UrlQuery ∷ [] else san.UrlOpen ∷ []))))
part_ordered_by true prequery query = (tt, tt)
part_ordered_by false true query = tt
part_ordered_by false false true = tt
part_ordered_by false false false = tt

part_ordered : (parts : Parts) → IsOrderedChain (chain_of (part_sans parts))
part_ordered parts = part_ordered_by parts.start parts.prequery parts.query

sans_ordered : (c : Css) → IsOrderedChain (chain_of (style_sans c))
sans_ordered (css.Code tails) = tt
sans_ordered css.Dq = tt
sans_ordered css.Sq = tt
sans_ordered css.UrlFresh = (tt, tt)
sans_ordered (css.Url parts) = part_ordered parts
sans_ordered (css.UrlDq parts) = part_ordered parts
sans_ordered (css.UrlSq parts) = part_ordered parts
sans_ordered css.UrlEnd = tt
sans_ordered (css.Comment star) = tt

element_ordered : (c : Css) (o : Result Css Code) → HasOrderedChain (element_holed (style_hole_with_chain c o))
element_ordered c (Ok after) = sans_ordered c
element_ordered c (Err e) = tt

value_ordered : (b : Body) (v : ValuePlace) → HasOrderedChain (value_hole b v)
value_ordered body.Plain v = plain_ordered v.quotes v
value_ordered body.NoHole v = tt
value_ordered (body.Url parts) v = url_ordered v parts (hole_answer parts)
value_ordered (body.Js j) v = (last_follows v.quotes, tt)
value_ordered (body.Css c) v = style_ordered c v

block_ordered : (lt : Bool) → HasOrderedChain (block_hole lt)
block_ordered true = tt
block_ordered false = tt

place_ordered : (p : Place) → HasOrderedChain (after_hole p)
place_ordered place.Text = tt
place_ordered place.Doctype = tt
place_ordered (place.Comment dash) = tt
place_ordered (place.Rcdata e) = tt
place_ordered (place.Tag t) = named_ordered (t.spots.name || t.spots.inside) t
place_ordered (place.Value v) = value_ordered v.body v
place_ordered (place.Script js) = tt
place_ordered (place.Style css) = element_ordered css (style_hole_answer css)
place_ordered (place.Block lt) = block_ordered lt

module _ (forest : ForestData) (chart : ChartData) (outputs : List (List Output)) where
  -- Where these pairs are open, by their numbers, an event may be given to the writer, which writes what the pair gives, of a text that is
  -- UTF-8 where the pair asks for it; and the numbers after it are those of the pairs after it.
  pub record IsFollowed (e : ExecEvent) (ns : List ℕ) (ps : List (Pair Place)) : Type 0 where
    pub may : MayGive outputs ns e
    pub same : output_pieces outputs ns e ≡ pair_pieces forest (places_of forest chart.summaries) e ps
    pub textual : IsGivenText outputs ns e → IsTextual forest (places_of forest chart.summaries) e ps
    pub numbers : AreNumbers forest chart.summaries (page_open_after outputs ns e) (sign_pairs forest (places_of forest chart.summaries) (move_sign e) ps)

  module _ (calls : ArePairCalls forest chart.summaries chart.calls) (are : AreOutputs forest chart outputs) where
    -- the place before a node of a pair
    abbrev there : Pair Place → ℕ → Option Place
    there p n = places_of forest chart.summaries p.template p.entry (before n)

    -- the output of a node, by its template's name
    output_named : (p : Pair Place) (m n : ℕ) (what : NodeKind) (at : Place)
        → pair_at chart.summaries (number_named p.template forest) p.entry ≡ Some m
        → node_kind_at forest p.template n ≡ Some what → there p n ≡ Some at
        → output_in outputs m n ≡ output_at (Some what) (Some at) (called_by forest chart.summaries (Some what) (Some at))
    output_named p m n what at number is comes =
        let r = row_at forest chart.summaries p.template p.entry m number in
        let kind_is = r.nodes n ∙ is in
        let place_is = r.places (before n) ∙ comes in
        are m n r.summary r.is ∙ rw (calls m n r.summary r.is, kind_is, place_is) refl

    text_followed : (n m : ℕ) (ns : List ℕ) (p : Pair Place) (ps : List (Pair Place)) → AreNumbers forest chart.summaries (m ∷ ns) (p ∷ ps)
        → MayText forest (places_of forest chart.summaries) p n → IsFollowed (gives_text n) (m ∷ ns) (p ∷ ps)
    text_followed n m ns p ps nu may =
        let out : output_in outputs m n ≡ output.Text (written_at may.bytes may.place) =
        output_named p m n (kind.Text may.bytes) may.place nu.0 may.is may.there in
        record {
          may = subst IsTextNode (sym out) tt;
          same = ap text_output out ∙ sym (ap (λ (o : Option NodeKind). text_pieces (there p n) (bytes_in o)) may.is
              ∙ ap (λ (o : Option Place). text_pieces o may.bytes) may.there);
          textual = λ u. tt;
          numbers = nu;
        }

    hole_followed : (n m : ℕ) (datum : Data) (ns : List ℕ) (p : Pair Place) (ps : List (Pair Place))
        → AreNumbers forest chart.summaries (m ∷ ns) (p ∷ ps)
        → MayHole forest (places_of forest chart.summaries) p n → IsFollowed (gives_hole n datum) (m ∷ ns) (p ∷ ps)
    hole_followed n m datum ns p ps nu may =
        let out : output_in outputs m n ≡ output.Value may.chain =
        output_named p m n (kind.Action may.pipe) may.place nu.0 may.is may.there
        ∙ ap (λ (h : Holed). by_chain (holed_chain h)) may.accepted in
        record {
          may = subst IsValue (sym out) (subst HasOrderedChain may.accepted (place_ordered may.place));
          same = ap (λ (o : Output). value_output o datum) out
              ∙ sym (ap (λ (o : Option Place). hole_pieces o datum) may.there
              ∙ ap (λ (h : Holed). holed_pieces h datum) may.accepted);
          textual = λ u. subst (λ (o : Option Place). IsTextAt o datum) (sym may.there)
              (subst (λ (h : Holed). IsTextHeld h datum) (sym may.accepted)
              (subst (λ (o : Output). IsTextOutput o datum) out u));
          numbers = nu;
        }

    call_followed : (n m : ℕ) (ns : List ℕ) (p : Pair Place) (ps : List (Pair Place)) → AreNumbers forest chart.summaries (m ∷ ns) (p ∷ ps)
        → PairMayEnter forest (places_of forest chart.summaries) p n → IsFollowed (enters n) (m ∷ ns) (p ∷ ps)
    call_followed n m ns p ps nu may =
        let number = number_at forest chart.summaries may.name may.place (start_in forest may.name) may.begins.place may.begins.there in
        let out : output_in outputs m n ≡ output.Call number.0 =
        output_named p m n (kind.Template may.name may.argument) may.place nu.0 may.is may.there ∙ ap by_call number.1 in
        record {
          may = subst IsCallNode (sym out) tt;
          same = refl;
          textual = λ u. tt;
          numbers = rw (out, may.is, may.there) (number.1, nu);
        }

    pub followed : (e : ExecEvent) (ns : List ℕ) (ps : List (Pair Place)) → AreNumbers forest chart.summaries ns ps
        → ChartMay forest (places_of forest chart.summaries) e ps → IsFollowed e ns ps
    followed e ns [] nu may = absurd may
    followed e [] (p ∷ ps) nu may = absurd nu
    followed (gives_text n) (m ∷ ns) (p ∷ ps) nu may = text_followed n m ns p ps nu may
    followed (gives_hole n datum) (m ∷ ns) (p ∷ ps) nu may = hole_followed n m datum ns p ps nu may
    followed (enters n) (m ∷ ns) (p ∷ ps) nu may = call_followed n m ns p ps nu may
    followed leaves (m ∷ ns) (p ∷ ps) nu may = record { may = tt; same = refl; textual = λ u. tt; numbers = nu.1 }
