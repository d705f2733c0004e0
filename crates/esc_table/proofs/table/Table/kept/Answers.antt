use Rattle.std.proofs.Common.{sym, ap, ◌∙◌, true, replicate, arith}
use Rattle.esc_table.specs.Kept.{kept_by, kept_of}
use Rattle.esc_table.proofs.KeptRuns.{characters_are}
use Rattle.esc_table.proofs.table.Table.kept.Goals as goal

pub returns : goal.returns
returns g c =
    let rows = c.self.inside in
    c.bytes_kept.ensures
    ∙ ap (kept_of (replicate 256 true)) (sym (characters_are rows.characters.now rows.replacements.now (omega (arith, c.self.invariant.characters_count, c.self.invariant.replacements_count))))
    ∙ ap kept_by c.self.view_is
