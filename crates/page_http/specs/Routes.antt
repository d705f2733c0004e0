-- Where a path leads: `/set`, `/reload`, and `/p/` with the name of a page.
use Rattle.std.specs.Prelude.{◌≡◌, ℕ, Bool, ◌==◌, List, [], ◌∷◌, Option, Some, None, option_map, codes, if◌then◌else◌}
use Rattle.std.specs.List.{list_any}
use Rattle.std.specs.Str.{bytes_eq}
use Rattle.page_http.specs.declared.routes.Destination.{Destination}
use Rattle.page_http.specs.declared.routes.Destination.TheVariants as to

-- what a path asks for: a page, the number of the set, or a reload
pub data DestinationData : Type 0 where
  page : List ℕ → DestinationData
  number : DestinationData
  reload : DestinationData

-- what follows a prefix
abbrev pub after_prefix : List ℕ → List ℕ → Option (List ℕ)
after_prefix [] path = Some path
after_prefix (x ∷ prefix) [] = None
after_prefix (x ∷ prefix) (b ∷ path) = if x == b then after_prefix prefix path else None

-- a slash, at which a segment ends (RFC 3986, section 3.3)
abbrev pub is_segment_end : ℕ → Bool
is_segment_end b = b == 47

-- a name has bytes, and is one segment
abbrev pub destination_named : Option (List ℕ) → Option DestinationData
destination_named None = None
destination_named (Some []) = None
destination_named (Some (b ∷ name)) =
    if list_any is_segment_end (b ∷ name) then None else Some (page (b ∷ name))

-- where a path leads; nothing in it is decoded
abbrev pub destination_of : List ℕ → Option DestinationData
destination_of path =
    if bytes_eq (codes "/set") path then Some number
    else (if bytes_eq (codes "/reload") path then Some reload
    else destination_named (after_prefix (codes "/p/") path))

-- the destination that the code's value says
abbrev pub destination_view : Destination → DestinationData
destination_view (to.Page name) = page name.now
destination_view to.Number = number
destination_view to.Reload = reload

-- what the code found is what the path asks for
abbrev pub Leads : Option DestinationData → Option Destination → Type 0
Leads destination found = destination ≡ option_map destination_view found
