use Rattle.std.proofs.Common.{◌≡◌, length, sym, ◌∙◌, ap}
use Rattle.set_publisher.proofs.Adding.{adds_moves}
use Rattle.set_publisher.proofs.history.History.append.Goals as goal

pub compare_exchange-found-requires : goal.compare_exchange-found-requires
compare_exchange-found-requires g c =
    let h = c.args.self.now.its in
    let offer = c.plain-offer.ensures in
    let pen = c.no_pen-pen.ensures in
    let book : c.again-seen.result.book ≡ c.args.self.now.word.book = ap (λ s. s.book) c.again-seen.ensures ∙ sym (ap (λ w. w.book) h) in
    let number : length c.again-seen.result.log ≡ c.args.self.now.known.number = ap (λ s. length s.log) c.again-seen.ensures ∙ sym c.args.self.now.known.counted in (
      ap (λ w. w.tracked) h,
      book,
      pen.0 ∙ book,
      offer.0,
      rw (ap (λ w. w.key) h, pen.1, offer.1, offer.3) (adds_moves c.again-seen.result.log _ c.args.self.now.known.number number),
    )
