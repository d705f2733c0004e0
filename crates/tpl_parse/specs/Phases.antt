-- Where in a file reading is.
use Rattle.tpl_parse.specs.declared.action.ActionState.{ActionState}
use Rattle.tpl_build.specs.declared.action.Opening.{Opening}
use Rattle.tpl_parse.specs.declared.action.Position.{Position}
use Rattle.tpl_parse.specs.declared.action.Position.TheVariants as position

-- outside actions, or in one, whose beginning and state these are
pub data Phase : Type 0 where
  Outside : Phase
  Inside : Opening → ActionState → Phase

-- the state of an action counts only inside
abbrev pub phase_of : Position → ActionState → Phase
phase_of position.Outside h = Outside
phase_of (position.Inside o) h = Inside o h
