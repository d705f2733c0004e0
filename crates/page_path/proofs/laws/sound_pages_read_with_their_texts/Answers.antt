use Rattle.page_path.proofs.TextsRead.{sound-pages-read-with-their-texts}
use Rattle.page_path.proofs.laws.sound_pages_read_with_their_texts.Goals as goal

pub returns : goal.returns
returns c = sound-pages-read-with-their-texts
