use Rattle.std.proofs.Common.{◌≡◌, drop}
use Rattle.place_core.specs.declared.member.Member.{Member}
use Rattle.html_step.specs.OriginViews.{origin_at}
use Rattle.html_step.specs.Origins.{fed_origin}
use Rattle.html_step.proofs.fed_origins.behind_bytes.Given as goal

abbrev pub invariant-loop-byte : goal.invariant-loop-byte
invariant-loop-byte l = (y : Member) → origin_at l.behind (fed_origin (drop l.byte-index l.bytes) l.fed y) ≡ origin_at l.fn.origins (fed_origin l.fn.bytes l.fn.parts y)
