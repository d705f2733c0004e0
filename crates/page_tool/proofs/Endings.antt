-- A command that ran out of memory before it began, and what it promises then.
use Rattle.std.proofs.Common.{◌≡◌, ◌≤◌, ℕ, true, true≢false, List, [], Option, refl, sym, inl, inr, arith}
use Rattle.std.specs.Prelude.{◌⊎◌}
use Rattle.std.specs.Io.KnownBytes.{Appends}
use Rattle.page_io.specs.Causes.{Rose}
use Rattle.page_tool.specs.Command.{Lines}
use Rattle.page_tool.specs.Devices.{Devices}
use Rattle.page_tool.specs.Lines.{stop_text}
use Rattle.page_tool.specs.Runs.{Runs, SaysLines}
use Rattle.page_tool.specs.Words.{Command, no_command, check, render, explain, tokens, make, is_command}
use Rattle.page_tool.specs.declared.status.Status.TheVariants as status
use Rattle.page_tool.specs.declared.stop.CommandStop.TheVariants as stop
use Rattle.page_tool.proofs.CheckStatuses.{check_exact}
use Rattle.page_tool.proofs.Exacts.{exact}
use Rattle.page_tool.proofs.ExplainStatuses.{explain_exact}
use Rattle.page_tool.proofs.MakeStatuses.{make_exact}
use Rattle.page_tool.proofs.TokensStatuses.{tokens_exact}

memory_read : {A : Type 0} → status.Memory ≡ status.ReadFault → A
memory_read e = absurd (parted e)
  where
    parted : status.Memory ≡ status.ReadFault → ⊥
    parted h = cc

memory_write : {A : Type 0} → status.Memory ≡ status.WriteFault → A
memory_write e = absurd (parted e)
  where
    parted : status.Memory ≡ status.WriteFault → ⊥
    parted h = cc

memory_ok : {A : Type 0} → status.Memory ≡ status.Ok → A
memory_ok e = absurd (parted e)
  where
    parted : status.Memory ≡ status.Ok → ⊥
    parted h = cc

-- the line of out of memory was said, or the sink for people failed
abbrev pub SaysMemory : Devices → Option (List ℕ) → ℕ → Type 0
SaysMemory before said faults = Rose before.people_faults faults ⊎ Appends before.said said (stop_text stop.Memory [])

abbrev later : Devices → Option (List ℕ) → ℕ → Devices
later before said faults = record before { said = said; people_faults = faults }

lines : (asked : Command) (before : Devices) (said : Option (List ℕ)) (faults : ℕ)
    → Lines asked before status.Memory (stop_text stop.Memory []) → SaysMemory before said faults
    → Rose before.people_faults faults ⊎ SaysLines asked before (later before said faults) status.Memory
lines asked before said faults l (inl r) = inl r
lines asked before said faults l (inr a) = inr (stop_text stop.Memory [], l, a)

pub ran_out : (asked : Command) (before : Devices) (said : Option (List ℕ)) (faults : ℕ) → is_command asked ≡ true
    → before.people_faults ≤ faults → SaysMemory before said faults
    → Runs asked before (later before said faults) status.Memory
ran_out no_command before said faults is more m = absurd (true≢false (sym is))
ran_out (check dir) before said faults is more m = record {
  output = refl;
  end = tt;
  in_order = (refl, refl);
  cause = tt;
  read = memory_read;
  write = memory_write;
  exact = check_exact _ _ _ _ _ tt memory_read memory_write;
  lines = lines (check dir) before said faults refl m;
  kept = refl;
  folder_later = omega arith;
  input_later = omega arith;
  output_later = omega arith;
  people_later = more;
}
ran_out (render dir root) before said faults is more m = record {
  output = refl;
  end = memory_ok;
  in_order = inl (refl, refl);
  cause = tt;
  read = memory_read;
  write = memory_write;
  exact = exact _ _ _ _ _ _ _ _ tt memory_read memory_read memory_write;
  lines = lines (render dir root) before said faults refl m;
  kept = refl;
  folder_later = omega arith;
  input_later = omega arith;
  output_later = omega arith;
  people_later = more;
}
ran_out (explain dir root) before said faults is more m = record {
  output = refl;
  end = tt;
  in_order = (refl, refl);
  cause = tt;
  read = memory_read;
  write = memory_write;
  exact = explain_exact _ _ _ _ _ _ tt memory_read memory_write;
  lines = lines (explain dir root) before said faults refl m;
  kept = refl;
  folder_later = omega arith;
  input_later = omega arith;
  output_later = omega arith;
  people_later = more;
}
ran_out tokens before said faults is more m = record {
  output = refl;
  end = memory_ok;
  in_order = refl;
  cause = tt;
  read = memory_read;
  write = memory_write;
  exact = tokens_exact _ _ _ _ tt memory_read memory_write;
  lines = lines tokens before said faults refl m;
  kept = refl;
  folder_later = omega arith;
  input_later = omega arith;
  output_later = omega arith;
  people_later = more;
}
ran_out (make sections) before said faults is more m = record {
  output = refl;
  end = tt;
  in_order = (refl, (refl, refl));
  cause = tt;
  read = memory_read;
  write = memory_write;
  exact = make_exact _ _ _ tt memory_write;
  lines = lines (make sections) before said faults refl m;
  kept = refl;
  folder_later = omega arith;
  input_later = omega arith;
  output_later = omega arith;
  people_later = more;
}
