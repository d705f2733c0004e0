use Rattle.std.proofs.Common.{◌≡◌, ap, arith}
use Rattle.tpl_tree.proofs.Listings.{size-kept, body_listing}
use Rattle.tpl_tree.proofs.Numbers.{is_entry, nodes_from-fits, nodes_from-some, sizes}
use Rattle.tpl_tree.specs.Listing.{nodes_of, IsTreeEntry}
use Rattle.tpl_tree.specs.Trees.{TreeData, nodes_from, IsFineTree}
use Rattle.tpl_tree.proofs.tree.Tree.entry.Goals as goal

pub index-requires : goal.index-requires
index-requires c = omega (arith, size-kept c.self.inside.entries.items c.args.self.now.nodes c.self.invariant (ap (λ (t : TreeData). t.nodes) c.self.view_is))

pub returns-clause-entry : goal.returns-clause-entry
returns-clause-entry c =
    let view : nodes_of c.self.inside.entries.items ≡ c.args.self.now.nodes = ap (λ (t : TreeData). t.nodes) c.self.view_is in
    let fine : IsFineTree c.args.self.now.nodes = rw view at c.self.invariant.fine in
    is_entry c.self.inside.entries.items c.args.self.now.nodes c.args.node c.index.result.now
    (body_listing c.self.inside.entries.items c.args.self.now.nodes c.self.invariant view) fine c.requires c.index.ensures

pub returns-clause-room : goal.returns-clause-room
returns-clause-room c = nodes_from-fits c.args.self.now.nodes c.args.node c.requires

pub returns-clause-sizes : goal.returns-clause-sizes
returns-clause-sizes c =
    let view : nodes_of c.self.inside.entries.items ≡ c.args.self.now.nodes = ap (λ (t : TreeData). t.nodes) c.self.view_is in
    let fine : IsFineTree c.args.self.now.nodes = rw view at c.self.invariant.fine in
    let entry : IsTreeEntry (nodes_from c.args.self.now.nodes c.args.node) c.index.result.now
    = is_entry c.self.inside.entries.items c.args.self.now.nodes c.args.node c.index.result.now
    (body_listing c.self.inside.entries.items c.args.self.now.nodes c.self.invariant view) fine c.requires c.index.ensures in
    omega (arith, entry.first, entry.other, sizes (nodes_from c.args.self.now.nodes c.args.node) (nodes_from-some c.args.self.now.nodes c.args.node c.requires))

pub returns-clause-fits : goal.returns-clause-fits
returns-clause-fits c = omega (arith, c.self.invariant.bound, size-kept c.self.inside.entries.items c.args.self.now.nodes c.self.invariant (ap (λ (t : TreeData). t.nodes) c.self.view_is))
