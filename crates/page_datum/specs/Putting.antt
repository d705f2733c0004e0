-- Entries put into a dictionary, one after another.
use Rattle.std.specs.Prelude.{ℕ, List, Option, Some, None, if◌then◌else◌, bytes_eq}
use Rattle.std.specs.Cmp.Lexicographic.{slice_cmp}
use Rattle.std.specs.Ordering.{nat_cmp, match_ordering}
use Rattle.page_datum.specs.Data.{Data, DataDict, no_entries, entry}

-- the entries, which ascend, with this value at a key, in the place of the one that stands there
abbrev pub put_entry : List ℕ → Data → DataDict → DataDict
put_entry key d no_entries = entry key d no_entries
put_entry key d (entry other value rest) =
    match_ordering (slice_cmp nat_cmp key other)
    (entry key d (entry other value rest))
    (entry other d rest)
    (entry other value (put_entry key d rest))

-- the entries with each of these pairs put in, so that of the values of a key the last stands
abbrev pub put_all : DataDict → DataDict → DataDict
put_all no_entries entries = entries
put_all (entry key d pairs) entries = put_all pairs (put_entry key d entries)

-- the value at a key where this one stands there, or none, and then these pairs are put in
abbrev pub last_entry_from : List ℕ → Option Data → DataDict → Option Data
last_entry_from key found no_entries = found
last_entry_from key found (entry other d pairs) =
    last_entry_from key (if bytes_eq other key then Some d else found) pairs

-- the value of the last pair with this key
abbrev pub last_at : List ℕ → DataDict → Option Data
last_at key pairs = last_entry_from key None pairs
