-- The tokens of a datum's JSON stand for the datum: the tree is read back, its numbers are whole, and its members keep their order.
use Rattle.std.proofs.Common.{◌≡◌, ℕ, ℤ, suc, pos, negsuc, ◌^◌, List, [], ◌∷◌, Some, option_map, option_and_then, Ok, Ordering, Less, Greater, decimal, refl, sym, ap, ◌∙◌, arith, lt-ltb, append-nil}
use Rattle.std.specs.Prelude.{⊤}
use Rattle.std.specs.Cmp.Lexicographic.{slice_cmp}
use Rattle.std.specs.Fmt.{signed_decimal}
use Rattle.std.specs.List.{AllByRecursion}
use Rattle.std.specs.List.Sorted.{IsStrictlySortedBy}
use Rattle.std.specs.Ordering.{nat_cmp, match_ordering, ordering_reverse}
use Rattle.std.specs.Str.{IsUtf8}
use Rattle.std.proofs.lemmas.Cmp.{nat_list_cmp_total}
use Rattle.json.specs.Json as grammar
use Rattle.json.specs.Lex.{tokens}
use Rattle.json.specs.Tree.{json_tokens, depth}
use Rattle.json.proofs.Printed.Trees.{value-json_tokens}
use Rattle.serde_json.specs.Data as json
use Rattle.serde_json.specs.Data.{put}
use Rattle.serde_json.specs.Find.{as_i64, of_integer}
use Rattle.serde_json.specs.Read.{number_of, of_json, of_items, of_members}
use Rattle.serde_json.proofs.Numbers.{number_of-decimal, number_of-negative}
use Rattle.page_datum.specs.Data.{Data, null, truth, int, text, list, dict, DataList, no_items, item, DataDict, no_entries, entry, keys, HasAscendingKeys}
use Rattle.page_datum.specs.Reading as reading
use Rattle.page_datum.specs.Reading.{data_of, whole_of, with_item, with_entry, as_list, as_dict}
use Rattle.js_lexer.proofs.DataPlain.{data-plain, data-told}
use Rattle.js_lexer.specs.BackLaws.{DataArePlain}
use Rattle.js_lexer.specs.Plain.{StandsFor}
use Rattle.js_lexer.specs.Sanitizers.{js_value}
use Rattle.js_lexer.specs.ScriptBack.{IsBackInScriptCode, IsWholeNumber, IsJsonData, AreJsonItems, AreJsonEntries}
use Rattle.san_js.proofs.JsonTokens.{tree_of, items_of, members_of, tokens-of}

-- ---- numbers

number-read : (n : ℤ) → IsWholeNumber n → number_of (signed_decimal n) ≡ Some (of_integer n)
number-read (pos n) h = number_of-decimal n (omega (arith, h))
number-read (negsuc n) h = number_of-negative n h

number-whole : (n : ℤ) → IsWholeNumber n → as_i64 (of_integer n) ≡ Some n
number-whole (pos n) h = rw (lt-ltb n (2 ^ 63) h) refl
number-whole (negsuc n) h = refl

-- ---- members whose keys ascend

-- what the JSON reader makes of a datum
abbrev mutual
  value_of : Data → json.Data
  value_of null = json.null
  value_of (truth b) = json.boolean b
  value_of (int n) = json.number (of_integer n)
  value_of (text t) = json.string t
  value_of (list items) = json.array (values_of items)
  value_of (dict entries) = json.object (pairs_of entries)

  values_of : DataList → json.Items
  values_of no_items = json.no_items
  values_of (item d rest) = json.item (value_of d) (values_of rest)

  pairs_of : DataDict → json.Members
  pairs_of no_entries = json.no_members
  pairs_of (entry key d rest) = json.member key (value_of d) (pairs_of rest)

-- the members of a dictionary behind others
abbrev behind : json.Members → json.Members → json.Members
behind json.no_members more = more
behind (json.member key d ms) more = json.member key d (behind ms more)

behind-none : (ms : json.Members) → ms ≡ behind ms json.no_members
behind-none json.no_members = refl
behind-none (json.member key d ms) = ap (json.member key d) (behind-none ms)

behind-twice : (ms : json.Members) (key : List ℕ) (d : json.Data) (more : json.Members)
    → behind (behind ms (json.member key d json.no_members)) more ≡ behind ms (json.member key d more)
behind-twice json.no_members key d more = refl
behind-twice (json.member l e ms) key d more = ap (json.member l e) (behind-twice ms key d more)

-- a key that is greater than all before, and such keys
abbrev IsPast : List ℕ → json.Members → Type 0
IsPast key json.no_members = ⊤
IsPast key (json.member l e ms) = (slice_cmp nat_cmp key l ≡ Greater) × IsPast key ms

abbrev ArePast : List (List ℕ) → json.Members → Type 0
ArePast [] ms = ⊤
ArePast (key ∷ more) ms = IsPast key ms × ArePast more ms

past-none : (more : List (List ℕ)) → ArePast more json.no_members
past-none [] = tt
past-none (key ∷ more) = (tt, past-none more)

past-end : (key : List ℕ) (ms : json.Members) (l : List ℕ) (e : json.Data) → IsPast key ms
    → slice_cmp nat_cmp key l ≡ Greater → IsPast key (behind ms (json.member l e json.no_members))
past-end key json.no_members l e h g = (g, tt)
past-end key (json.member k d ms) l e h g = (h.0, past-end key ms l e h.1 g)

greater : (key l : List ℕ) → slice_cmp nat_cmp l key ≡ Less → slice_cmp nat_cmp key l ≡ Greater
greater key l h = nat_list_cmp_total.antisymm key l ∙ ap ordering_reverse h

past-ends : (more : List (List ℕ)) (ms : json.Members) (l : List ℕ) (e : json.Data) → ArePast more ms
    → AllByRecursion (λ key. slice_cmp nat_cmp l key ≡ Less) more
    → ArePast more (behind ms (json.member l e json.no_members))
past-ends [] ms l e h all = tt
past-ends (key ∷ more) ms l e h all = (past-end key ms l e h.0 (greater key l all.0), past-ends more ms l e h.1 all.1)

put-past : (key : List ℕ) (d : json.Data) (ms : json.Members) → IsPast key ms → put key d ms ≡ behind ms (json.member key d json.no_members)
put-past key d json.no_members h = refl
put-past key d (json.member l e ms) h =
    let more = json.member l e ms in
    ap (λ (o : Ordering). match_ordering o (json.member key d more) (json.member l d ms) (json.member l e (put key d ms))) h.0
    ∙ ap (json.member l e) (put-past key d ms h.1)

-- ---- the tree as a value

mutual
  unfolding IsStrictlySortedBy

  tree-read : (d : Data) → IsJsonData d → of_json (tree_of d) ≡ Some (value_of d)
  tree-read null h = refl
  tree-read (truth b) h = refl
  tree-read (int n) h = ap (option_map json.number) (number-read n h)
  tree-read (text t) h = refl
  tree-read (list items) h = ap (option_map json.array) (items-read items h)
  tree-read (dict entries) h = ap (option_map json.object) (members-read entries json.no_members h.0 (past-none (keys entries)) h.1)

  items-read : (items : DataList) → AreJsonItems items → of_items (items_of items) ≡ Some (values_of items)
  items-read no_items h = refl
  items-read (item d rest) h =
      ap (option_and_then (λ value. option_map (json.item value) (of_items (items_of rest)))) (tree-read d h.0)
      ∙ ap (option_map (json.item (value_of d))) (items-read rest h.1)

  members-read : (entries : DataDict) (found : json.Members) → HasAscendingKeys entries → ArePast (keys entries) found
      → AreJsonEntries entries → of_members (members_of entries) found ≡ Some (behind found (pairs_of entries))
  members-read no_entries found ascend past h = ap Some (behind-none found)
  members-read (entry key d rest) found ascend past h =
      let longer = behind found (json.member key (value_of d) json.no_members) in
      ap (option_and_then (λ value. of_members (members_of rest) (put key value found))) (tree-read d h.0)
      ∙ ap (of_members (members_of rest)) (put-past key (value_of d) found past.0)
      ∙ members-read rest longer ascend.1 (past-ends (keys rest) found key (value_of d) past.1 ascend.0) h.1
      ∙ ap Some (behind-twice found key (value_of d) (pairs_of rest))

-- ---- and what that stands for

mutual
  value-stands : (d : Data) → IsJsonData d → data_of (value_of d) ≡ Ok d
  value-stands null h = refl
  value-stands (truth b) h = refl
  value-stands (int n) h = ap whole_of (number-whole n h)
  value-stands (text t) h = refl
  value-stands (list items) h = ap as_list (values-stand items 0 h)
  value-stands (dict entries) h = ap as_dict (pairs-stand entries h.1)

  values-stand : (items : DataList) (n : ℕ) → AreJsonItems items → reading.items_of n (values_of items) ≡ Ok items
  values-stand no_items n h = refl
  values-stand (item d rest) n h =
      ap (λ first. with_item (decimal n) first (reading.items_of (suc n) (values_of rest))) (value-stands d h.0)
      ∙ ap (with_item (decimal n) (Ok d)) (values-stand rest (suc n) h.1)

  pairs-stand : (entries : DataDict) → AreJsonEntries entries → reading.entries_of (pairs_of entries) ≡ Ok entries
  pairs-stand no_entries h = refl
  pairs-stand (entry key d rest) h =
      ap (λ first. with_entry key first (reading.entries_of (pairs_of rest))) (value-stands d h.0)
      ∙ ap (with_entry key (Ok d)) (pairs-stand rest h.1)

tokens-stand : (d : Data) (bytes : List ℕ) → IsJsonData d → IsUtf8 bytes → tokens bytes ≡ json_tokens (tree_of d) → StandsFor bytes d
tokens-stand d bytes h u same = record {
  depth = depth (tree_of d);
  value = value_of d;
  utf8 = u;
  reads = ap (λ read. option_and_then of_json (option_and_then (λ p. grammar.if_last p.0 p.1) read))
      (ap (grammar.value (depth (tree_of d))) (same ∙ sym (append-nil _))
      ∙ value-json_tokens (tree_of d) (depth (tree_of d)) [] (omega arith))
      ∙ tree-read d h;
  stands = value-stands d h;
}

-- what is written of a datum in code stands for it
pub stands-for : (d : Data) → IsJsonData d → IsUtf8 (js_value d) → StandsFor (js_value d) d
stands-for d h u = tokens-stand d (js_value d) h u (tokens-of d h)

-- and is plain in code, by the law of scripts that says it of each datum
pub script-code-back-by : DataArePlain → (d : Data) → IsJsonData d → IsUtf8 (js_value d) → IsBackInScriptCode d (js_value d)
script-code-back-by laws d h u = record {
  plain = λ a t takes between. laws.plain_data a t d takes between;
  told = λ a t takes between. laws.told_data a t d takes between;
  json = stands-for d h u;
}

pub script-code-back : (d : Data) → IsJsonData d → IsUtf8 (js_value d) → IsBackInScriptCode d (js_value d)
script-code-back = script-code-back-by (record { plain_data = data-plain; told_data = data-told })
