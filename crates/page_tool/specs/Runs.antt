-- What each command promises, and `run` of all of them.
use Rattle.std.specs.Prelude.{◌≡◌, ◌≤◌, ◌⊎◌, ℕ, List}
use Rattle.std.specs.Io.KnownBytes.{Appends}
use Rattle.page_io.specs.Causes.{Rose}
use Rattle.page_tool.specs.Command.{CommandWrites, CommandReads, IsInOrder, IsCaused, IsDecided, Lines}
use Rattle.page_tool.specs.Devices.{Devices}
use Rattle.page_tool.specs.Words.{Command}
use Rattle.page_tool.specs.declared.status.Status.{Status}
use Rattle.page_tool.specs.declared.status.Status.TheVariants as status

-- lines of a command were written for people
abbrev pub SaysLines : Command → Devices → Devices → Status → Type 0
SaysLines command before after s =
    (text : List ℕ) × Lines command before s text × Appends before.said after.said text

-- a command ended in a status, with its devices as they were before and as they are after
pub record Runs (command : Command) (before after : Devices) (s : Status) : Type 0 where
  -- the output has got what the status says, and the input was read as far as it says
  pub output : CommandWrites command before s after.taken
  pub end : CommandReads command s after.left
  pub in_order : IsInOrder command before after
  -- each status has its cause
  pub cause : IsCaused command before s
  pub read : s ≡ status.ReadFault
      → Rose before.folder_faults after.folder_faults ⊎ Rose before.input_faults after.input_faults
  pub write : s ≡ status.WriteFault → Rose before.output_faults after.output_faults
  -- and where a cause holds, no other status comes, unless a device failed or memory ran out
  pub exact : IsDecided command before
      (Rose before.folder_faults after.folder_faults)
      (Rose before.input_faults after.input_faults)
      (Rose before.output_faults after.output_faults) s
  -- the lines for people are those of the status, unless their sink failed
  pub lines : Rose before.people_faults after.people_faults ⊎ SaysLines command before after s
  -- what the folder holds stays, and no device's count of faults falls
  pub kept : after.held ≡ before.held
  pub folder_later : before.folder_faults ≤ after.folder_faults
  pub input_later : before.input_faults ≤ after.input_faults
  pub output_later : before.output_faults ≤ after.output_faults
  pub people_later : before.people_faults ≤ after.people_faults
