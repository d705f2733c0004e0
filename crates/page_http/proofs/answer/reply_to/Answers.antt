use Rattle.std.proofs.Common.{rules, inl}
use Rattle.page_datum.specs.View.{view}
use Rattle.page_http.proofs.answer.reply_to.Goals as goal

pub returns-in-Ok-clause-sound : goal.returns-in-Ok-clause-sound
returns-in-Ok-clause-sound g c =
    inl (record {
      page = record {
        name = c.as_str.result.now;
        datum = view c.in-Ok-Page.datum;
        asks = search rules;
        reply_is = search rules;
      };
      is_meant = search rules;
      is_sound = search rules;
    })
