-- The name of a function reads as this function.
use Rattle.std.proofs.Common.{◌≡◌, refl}
use Rattle.tpl_symbol.specs.Names.{function_name, name_kind}
use Rattle.tpl_symbol.specs.declared.func.Func.{Func}
use Rattle.tpl_symbol.specs.declared.func.Func.TheVariants as func
use Rattle.tpl_symbol.specs.declared.symbol.SymbolKind.TheVariants as symbol

pub reads_back : (f : Func) → name_kind (function_name f) ≡ symbol.Function f
reads_back func.And = refl
reads_back func.Or = refl
reads_back func.Not = refl
reads_back func.Eq = refl
reads_back func.Ne = refl
reads_back func.Lt = refl
reads_back func.Le = refl
reads_back func.Gt = refl
reads_back func.Ge = refl
reads_back func.Index = refl
reads_back func.Slice = refl
reads_back func.Len = refl
reads_back func.Print = refl
reads_back func.Println = refl
reads_back func.Printf = refl
reads_back func.Html = refl
reads_back func.Urlquery = refl
