-- Data as trees of numbers, and back.
use Rattle.std.specs.Prelude.{◌≡◌, refl, ℕ, zero, suc, pos, negsuc, true, false, List, [], ◌∷◌}
use Rattle.std.specs.Coded.{Coded, code_by}
use Rattle.page_datum.specs.Data.{Data, null, truth, int, text, list, dict, DataList, no_items}
use Rattle.page_datum.specs.Data.{item, DataDict, no_entries, entry}
use Rattle.page_io.specs.BytesCode.{bytes_tree, bytes_from, bytes_from-bytes_tree}
use base.Stored.{Gv, gnil, gnum, gcons}
use denote.Struct.Codes.{itself}

abbrev mutual
  pub data_tree : Data → Gv
  data_tree null = gnil
  data_tree (truth false) = gcons (gnum 0) gnil
  data_tree (truth true) = gcons (gnum 1) gnil
  data_tree (int (pos n)) = gcons (gnum 2) (gnum n)
  data_tree (int (negsuc n)) = gcons (gnum 3) (gnum n)
  data_tree (text t) = gcons (gnum 4) (bytes_tree t)
  data_tree (list items) = gcons (gnum 5) (list_tree items)
  data_tree (dict entries) = gcons (gnum 6) (dict_tree entries)

  pub list_tree : DataList → Gv
  list_tree no_items = gnil
  list_tree (item d rest) = gcons (data_tree d) (list_tree rest)

  pub dict_tree : DataDict → Gv
  dict_tree no_entries = gnil
  dict_tree (entry key d rest) = gcons (bytes_tree key) (gcons (data_tree d) (dict_tree rest))

abbrev mutual
  pub data_from : Gv → Data
  data_from (gcons (gnum zero) _) = truth false
  data_from (gcons (gnum (suc zero)) _) = truth true
  data_from (gcons (gnum (suc (suc zero))) (gnum n)) = int (pos n)
  data_from (gcons (gnum (suc (suc (suc zero)))) (gnum n)) = int (negsuc n)
  data_from (gcons (gnum (suc (suc (suc (suc zero))))) t) = text (bytes_from t)
  data_from (gcons (gnum (suc (suc (suc (suc (suc zero)))))) items) = list (list_from items)
  data_from (gcons (gnum (suc (suc (suc (suc (suc (suc zero))))))) entries) =
      dict (dict_from entries)
  data_from _ = null

  pub list_from : Gv → DataList
  list_from (gcons d rest) = item (data_from d) (list_from rest)
  list_from _ = no_items

  pub dict_from : Gv → DataDict
  dict_from (gcons key (gcons d rest)) = entry (bytes_from key) (data_from d) (dict_from rest)
  dict_from _ = no_entries

mutual
  data_from-data_tree : (d : Data) → data_from (data_tree d) ≡ d
  data_from-data_tree null = refl
  data_from-data_tree (truth false) = refl
  data_from-data_tree (truth true) = refl
  data_from-data_tree (int (pos n)) = refl
  data_from-data_tree (int (negsuc n)) = refl
  data_from-data_tree (text t) = λ i. text (bytes_from-bytes_tree t i)
  data_from-data_tree (list items) = λ i. list (list_from-list_tree items i)
  data_from-data_tree (dict entries) = λ i. dict (dict_from-dict_tree entries i)

  pub list_from-list_tree : (items : DataList) → list_from (list_tree items) ≡ items
  list_from-list_tree no_items = refl
  list_from-list_tree (item d rest) =
      λ i. item (data_from-data_tree d i) (list_from-list_tree rest i)

  pub dict_from-dict_tree : (entries : DataDict) → dict_from (dict_tree entries) ≡ entries
  dict_from-dict_tree no_entries = refl
  dict_from-dict_tree (entry key d rest) =
      λ i. entry
      (bytes_from-bytes_tree key i) (data_from-data_tree d i) (dict_from-dict_tree rest i)

abbrev pub list_code : Coded DataList
list_code = code_by Gv itself list_tree list_from list_from-list_tree

abbrev pub dict_code : Coded DataDict
dict_code = code_by Gv itself dict_tree dict_from dict_from-dict_tree
