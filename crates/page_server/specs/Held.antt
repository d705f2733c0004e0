-- What a buffer holds.
use Rattle.std.specs.Prelude.{ℕ, List, slice_range}
use Rattle.page_server.specs.declared.buffer.Buffer.{Buffer}

-- the bytes of a buffer
abbrev pub held_in : Buffer → List ℕ
held_in b = slice_range b.room.items b.start b.end
