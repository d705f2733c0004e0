-- The most bytes that an input of each call may have.
use Rattle.std.specs.Prelude.{ℕ}
use Rattle.tpl_token.specs.Answers.{max_template_text}
use Rattle.page_datum.specs.Reading.{max_length}
use Rattle.measure.specs.declared.request.Measured.{Measured}
use Rattle.measure.specs.declared.request.Measured.TheVariants.{Tokens, Parse, Gather, Infer, Html, AttrNospace, UrlNorm, Characters, Steps, Written, Data, Turns, Calls, Keys, Page, Pages, Dropped, Names, Slices, Requests, Link, Looks, Locks}

abbrev pub most_of : Measured → ℕ
most_of Data = max_length
most_of Turns = max_length
most_of Calls = max_length
most_of Keys = max_length
most_of Dropped = max_length
most_of Names = max_length
most_of Slices = max_length
most_of Requests = max_length
most_of Link = max_length
most_of Looks = max_length
most_of Locks = max_length
most_of Tokens = max_template_text
most_of Parse = max_template_text
most_of Gather = max_template_text
most_of Infer = max_template_text
most_of Html = max_template_text
most_of AttrNospace = max_template_text
most_of UrlNorm = max_template_text
most_of Characters = max_template_text
most_of Steps = max_template_text
most_of Written = max_template_text
most_of Page = max_template_text
most_of Pages = max_template_text
