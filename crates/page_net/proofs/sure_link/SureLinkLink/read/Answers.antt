use Rattle.std.proofs.Common.{◌≡◌, take, drop, ap, sym, ◌∙◌}
use Rattle.page_io.proofs.Taken.{taken_front, none_left}
use Rattle.page_net.proofs.sure_link.SureLinkLink.read.Goals as goal

pub returns-clause-bytes : goal.returns-clause-bytes
returns-clause-bytes c =
    let s = c.args.self.now in
    let n = c.copy_front-count.result in
    let rest : c.split_at.result.1.now ≡ drop s.at s.bytes = c.split_at.ensures.back ∙ ap (drop s.at) c.as_slice.ensures in (
      taken_front s.bytes c.copy_front-count.new.buf s.at n (c.copy_front-count.ensures.bytes ∙ ap (take n) rest),
      λ none some. none_left s.bytes s.at n none (sym rest ∙ c.copy_front-count.ensures.end none some),
    )
