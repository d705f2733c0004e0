-- What is read of the words of `serve`, as their definition has it.
use Rattle.std.specs.Prelude.{Option, option_copied, option_map}
use Rattle.page_tool.specs.ServeWords as words
use Rattle.page_tool.specs.declared.serve_words.Service.{Service}
use Rattle.page_tool.specs.declared.serve_words.ServeOption.{ServeOption}
use Rattle.page_tool.specs.declared.serve_words.ServeOption.TheVariants as option
use Rattle.page_tool.specs.declared.serve_words.ServeSaid.{ServeSaid}
use Rattle.page_tool.specs.declared.serve_words.ServeWord.{ServeWord}
use Rattle.page_tool.specs.declared.serve_words.ServeWord.TheVariants as word

abbrev pub option_read : ServeOption → words.ServeOption
option_read option.Workers = words.option_workers
option_read option.Links = words.option_links

abbrev pub word_read : ServeWord → words.ServeWord
word_read (word.Awaiting o) = words.awaiting (option_read o)
word_read (word.Giving o value) = words.giving (option_read o) value.now
word_read word.Unknown = words.unknown
word_read word.Plain = words.plain

abbrev pub said_read : ServeSaid → words.ServeSaid
said_read said = record {
  dir = option_copied said.dir;
  address = option_copied said.address;
  workers = said.workers;
  links = said.links;
  awaited = option_map option_read said.awaited;
}

abbrev pub service_read : Service → words.Service
service_read service = record {
  dir = service.dir.now;
  address = service.address.now;
  workers = service.workers;
  links = service.links;
}
