use Rattle.page_path.proofs.Sound.{pages-are-sound}
use Rattle.page_path.proofs.laws.pages_are_sound.Goals as goal

pub returns : goal.returns
returns c = pages-are-sound (record {
  code = c.values_read_back_in_code.ensures;
  strings = c.strings_read_back.ensures;
  stay = c.values_stay_in_urls.ensures;
  scripts = record { values = c.data_are_plain.ensures; texts = c.texts_read_back.ensures };
})
