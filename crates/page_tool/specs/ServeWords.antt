-- The words of `serve DIR ADDR --workers N [--links K]`.
use Rattle.std.specs.Prelude.{ℕ, codes, bytes_eq, List, [], ◌∷◌, take, drop, length, if◌then◌else◌, Bool, false}
use Rattle.std.specs.Prelude.{Option, Some, None, option_and_then, option_map}
use Rattle.page_tool.specs.Words.{is_option, number_up_to}

-- the directory of the pages, the address to serve them at, how many workers there are, and how many
-- links each of them serves at most
pub record Service : Type 0 where
  pub dir : List ℕ
  pub address : List ℕ
  pub workers : ℕ
  pub links : ℕ

-- the most workers, the most links that words can ask for, and how many they are without such words
abbrev pub max_workers : ℕ
max_workers = 16

abbrev pub max_links : ℕ
max_links = 1000000

abbrev pub links_unsaid : ℕ
links_unsaid = 18446744073709551615

-- the options of `serve`
pub data ServeOption : Type 0 where
  option_workers : ServeOption
  option_links : ServeOption

-- a word is an option whose value is the next word, an option with its value, a word that could be
-- another option, or a plain one
pub data ServeWord : Type 0 where
  awaiting : ServeOption → ServeWord
  giving : ServeOption → List ℕ → ServeWord
  unknown : ServeWord
  plain : ServeWord

-- what stands in a word behind a mark with which it begins
abbrev pub behind_mark : List ℕ → List ℕ → Option (List ℕ)
behind_mark mark word =
    if bytes_eq (take (length mark) word) mark then Some (drop (length mark) word) else None

abbrev pub unknown_or_plain : List ℕ → ServeWord
unknown_or_plain word = if is_option word then unknown else plain

abbrev pub giving_links : Option (List ℕ) → List ℕ → ServeWord
giving_links (Some value) word = giving option_links value
giving_links None word = unknown_or_plain word

abbrev pub giving_workers : Option (List ℕ) → List ℕ → ServeWord
giving_workers (Some value) word = giving option_workers value
giving_workers None word = giving_links (behind_mark (codes "--links=") word) word

abbrev pub serve_word : List ℕ → ServeWord
serve_word word =
    if bytes_eq word (codes "--workers") then awaiting option_workers
    else if bytes_eq word (codes "--links") then awaiting option_links
    else giving_workers (behind_mark (codes "--workers=") word) word

-- what the words so far say, and the option whose value is the next word
pub record ServeSaid : Type 0 where
  pub dir : Option (List ℕ)
  pub address : Option (List ℕ)
  pub workers : Option ℕ
  pub links : Option ℕ
  pub awaited : Option ServeOption

abbrev pub nothing_said : ServeSaid
nothing_said = record { dir = None; address = None; workers = None; links = None; awaited = None }

-- the value of an option is said at most once, and the two plain words are the directory and the
-- address
abbrev pub saying_workers : ServeSaid → Option ℕ → Option ℕ → Option ServeSaid
saying_workers said None number =
    option_map (λ n. record said { workers = Some n; awaited = None }) number
saying_workers said (Some n) number = None

abbrev pub saying_links : ServeSaid → Option ℕ → Option ℕ → Option ServeSaid
saying_links said None number =
    option_map (λ n. record said { links = Some n; awaited = None }) number
saying_links said (Some n) number = None

abbrev pub saying_value : ServeSaid → ServeOption → List ℕ → Option ServeSaid
saying_value said option_workers value =
    saying_workers said said.workers (number_up_to max_workers value)
saying_value said option_links value =
    saying_links said said.links (number_up_to max_links value)

abbrev pub saying_address : ServeSaid → Option (List ℕ) → List ℕ → Option ServeSaid
saying_address said None word = Some (record said { address = Some word })
saying_address said (Some address) word = None

abbrev pub saying_plain : ServeSaid → Option (List ℕ) → List ℕ → Option ServeSaid
saying_plain said None word = Some (record said { dir = Some word })
saying_plain said (Some dir) word = saying_address said said.address word

abbrev pub saying : ServeSaid → ServeWord → List ℕ → Option ServeSaid
saying said (awaiting option) word = Some (record said { awaited = Some option })
saying said (giving option value) word = saying_value said option value
saying said unknown word = None
saying said plain word = saying_plain said said.dir word

abbrev pub saying_word : ServeSaid → Option ServeOption → List ℕ → Option ServeSaid
saying_word said (Some option) word = saying_value said option word
saying_word said None word = saying said (serve_word word) word

-- what is said once these words have come, if each of them has its place
abbrev pub said_after : ServeSaid → List (List ℕ) → Option ServeSaid
said_after said [] = Some said
said_after said (word ∷ words) =
    option_and_then (λ now. said_after now words) (saying_word said said.awaited word)

-- how many links a worker serves at most
abbrev pub links_of : Option ℕ → ℕ
links_of None = links_unsaid
links_of (Some links) = links

-- how to serve, where all is said and no value is missing
abbrev pub service_with : Option (List ℕ) → Option (List ℕ) → Option ℕ → ℕ → Option ServeOption → Option Service
service_with (Some dir) (Some address) (Some workers) links None =
    Some (record { dir = dir; address = address; workers = workers; links = links })
service_with _ _ _ _ _ = None

abbrev pub service_said : ServeSaid → Option Service
service_said said =
    service_with said.dir said.address said.workers (links_of said.links) said.awaited

-- how to serve, by the words after the command's name
abbrev pub service_in : List (List ℕ) → Option Service
service_in words = option_and_then service_said (said_after nothing_said words)

-- how to serve, by all words: the name `serve`, and the words after it
abbrev pub service_of : List (List ℕ) → Option Service
service_of [] = None
service_of (name ∷ words) = if bytes_eq name (codes "serve") then service_in words else None

-- the first word is `serve`
abbrev pub begins_serve : List (List ℕ) → Bool
begins_serve [] = false
begins_serve (name ∷ words) = bytes_eq name (codes "serve")
