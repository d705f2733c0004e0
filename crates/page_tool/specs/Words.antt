-- The words of a command line, and the command that they are.
use Rattle.std.specs.Prelude.{ℕ, ◌+◌, ◌-◌, ◌*◌, ◌==◌, ◌&&◌, ◌||◌, nat_le, nat_lt, codes, bytes_eq, List, [], ◌∷◌, map}
use Rattle.std.specs.Prelude.{String, string_bytes, Bool, true, false, if◌then◌else◌, Option, Some, None}
use Rattle.std.specs.declared.alloc.Global.{Global}

-- the bytes of words
abbrev pub texts : List (String Global) → List (List ℕ)
texts words = map (λ word. string_bytes word) words

-- the commands: words that are none, each command with its directory and the name of its root,
-- `tokens`, and `make` with the number of sections
pub data Command : Type 0 where
  no_command : Command
  check : List ℕ → Command
  render : List ℕ → List ℕ → Command
  explain : List ℕ → List ℕ → Command
  tokens : Command
  make : ℕ → Command

-- words that are a command
abbrev pub is_command : Command → Bool
is_command no_command = false
is_command _ = true

-- a word that could be an option
abbrev pub is_option : List ℕ → Bool
is_option [] = false
is_option (b ∷ bs) = b == 45

-- the most sections that are made
abbrev pub max_sections : ℕ
max_sections = 10000

-- a number with one more digit
abbrev pub number_with_digit : ℕ → ℕ → ℕ
number_with_digit n b = n * 10 + (b - 48)

-- a byte that is a digit, with which the number is no greater than `most`
abbrev pub takes_digit : ℕ → ℕ → ℕ → Bool
takes_digit most n b = nat_le 48 b && nat_le b 57 && nat_le (number_with_digit n b) most

-- the number that decimal digits are, after those of `n`, up to `most`
abbrev pub digits_after : ℕ → ℕ → List ℕ → Option ℕ
digits_after most n [] = if nat_lt 0 n then Some n else None
digits_after most n (b ∷ bs) =
    if takes_digit most n b then digits_after most (number_with_digit n b) bs else None

-- the number that a word is: from 1 up to `most`, in decimal digits alone
abbrev pub number_up_to : ℕ → List ℕ → Option ℕ
number_up_to most word = digits_after most 0 word

-- the number of sections that a word is
abbrev pub sections_in : List ℕ → Option ℕ
sections_in word = number_up_to max_sections word

-- the command that makes so many sections
abbrev pub making : Option ℕ → Command
making None = no_command
making (Some sections) = make sections

-- the command of no words that has this name
abbrev pub command_alone : List ℕ → Command
command_alone name = if bytes_eq name (codes "tokens") then tokens else no_command

-- the command of a directory that has this name
abbrev pub command_on : List ℕ → List ℕ → Command
command_on name dir = if bytes_eq name (codes "check") then check dir else no_command

-- the command of a number of sections that has this name
abbrev pub command_making : List ℕ → List ℕ → Command
command_making name number =
    if bytes_eq name (codes "make") then making (sections_in number) else no_command

-- the command of one word that has this name
abbrev pub command_by : List ℕ → List ℕ → Command
command_by name word =
    if bytes_eq name (codes "check") then check word else command_making name word

-- the command of a root of a directory that has this name
abbrev pub command_at : List ℕ → List ℕ → List ℕ → Command
command_at name dir root =
    if bytes_eq name (codes "render") then render dir root
    else if bytes_eq name (codes "explain") then explain dir root
    else no_command

-- the command that words are: its name and its words, none of which could be an option
abbrev pub command_of : List (List ℕ) → Command
command_of (name ∷ []) = command_alone name
command_of (name ∷ word ∷ []) = if is_option word then no_command else command_by name word
command_of (name ∷ dir ∷ root ∷ []) =
    if is_option dir || is_option root then no_command else command_at name dir root
command_of _ = no_command
