use Rattle.std.proofs.Common.{refl, sym, ap}
use Rattle.place_show.proofs.Makings.{meets}
use Rattle.place_show.proofs.Mapped.{if-shown}
use Rattle.place_show.specs.Together.{ShowsMet, ShowsMetAt}
use Rattle.tpl_paths.specs.Edges.{path_nodes_of_tree}
use Rattle.place_show.proofs.met_apart.refused_on_both.Goals as goal

pub returns-in-Before : goal.returns-in-Before
returns-in-Before c =
    let forest = c.args.forest.now in
    let w = c.args.one.now in
    let v = c.args.other.now in
    let stands = c.if-not-stands_with.ensures in
    let meet = meets w v (stands.root refl) (stands.template refl) (stands.point refl) (stands.open_calls refl) in
    if-shown (ShowsMetAt forest w v c.tree.result.now.nodes c.in-Before.node c.args.last) (ShowsMet forest w v c.args.last) c.in_tree.result
    (λ sh f. f (ap path_nodes_of_tree (sym c.tree.ensures)) c.in-Before.is meet) c.in_tree.ensures
