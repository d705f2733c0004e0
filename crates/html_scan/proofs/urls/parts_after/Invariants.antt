use Rattle.std.proofs.Common.{◌≡◌, drop}
use Rattle.place_core.specs.page.Tags.{feed_bytes}
use Rattle.html_scan.specs.Scans.{parts_feeding}
use Rattle.html_scan.proofs.urls.parts_after.Given as goal

abbrev pub invariant-loop-byte : goal.invariant-loop-byte
invariant-loop-byte l = feed_bytes parts_feeding l.fed (drop l.byte-index l.bytes) ≡ feed_bytes parts_feeding l.fn.parts l.fn.bytes
