-- URLs in the pieces of a style. The parts of a URL do not matter for where it ends, so that one state stands for all of it.
use Rattle.std.specs.Prelude.{[], None, ⊤}
use Rattle.css_lexer.specs.UrlReading.{UrlReading}

abbrev pub any_url_state : ⊤
any_url_state = tt

abbrev pub any_url : UrlReading ⊤ ⊤
any_url = record {
  start = tt;
  feed = λ u b. tt;
  emits = λ u b. [];
  refuses = λ u b. None;
  ends = λ u. [];
  refuses_cut = λ u. None;
  after_cut = λ u. tt;
  refuses_hole = λ u. None;
  after_hole = λ u. tt;
  behind = λ u v. tt;
  LeadsPlain = λ u v. ⊤;
  MayBePlain = λ u bytes. ⊤;
  AreAlike = λ u v. ⊤;
}
