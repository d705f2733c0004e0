use Rattle.std.proofs.Common.{sym, true, false}
use Rattle.tpl_eval.specs.Functions.{eq_of, format_made, ge_of, gt_of, le_of, len_of, lt_of, made, ne_of, not_of, slice_all}
use Rattle.tpl_eval.specs.Values.{values_view}
use Rattle.tpl_eval.proofs.call.called.Goals as goal
use Rattle.tpl_format.specs.Formats.{formatted_args}
use Rattle.tpl_format.specs.Prints.{printed_text}

pub returns-in-Not : goal.returns-in-Not
returns-in-Not c = rw (c.in-Not.is, sym c.as_slice.ensures.value) (c.free.ensures (not_of (values_view c.as_slice.result.now)) c.not.ensures)

pub returns-in-Eq : goal.returns-in-Eq
returns-in-Eq c = rw (c.in-Eq.is, sym c.as_slice-in-Eq.ensures.value) (c.free-in-Eq.ensures (eq_of (values_view c.as_slice-in-Eq.result.now)) c.eq.ensures)

pub returns-in-Ne : goal.returns-in-Ne
returns-in-Ne c = rw (c.in-Ne.is, sym c.as_slice-in-Ne.ensures.value) (c.free-in-Ne.ensures (ne_of (values_view c.as_slice-in-Ne.result.now)) c.ne.ensures)

pub returns-in-Lt : goal.returns-in-Lt
returns-in-Lt c = rw (c.in-Lt.is, sym c.as_slice-in-Lt.ensures.value) (c.free-in-Lt.ensures (lt_of (values_view c.as_slice-in-Lt.result.now)) c.lt.ensures)

pub returns-in-Le : goal.returns-in-Le
returns-in-Le c = rw (c.in-Le.is, sym c.as_slice-in-Le.ensures.value) (c.free-in-Le.ensures (le_of (values_view c.as_slice-in-Le.result.now)) c.le.ensures)

pub returns-in-Gt : goal.returns-in-Gt
returns-in-Gt c = rw (c.in-Gt.is, sym c.as_slice-in-Gt.ensures.value) (c.free-in-Gt.ensures (gt_of (values_view c.as_slice-in-Gt.result.now)) c.gt.ensures)

pub returns-in-Ge : goal.returns-in-Ge
returns-in-Ge c = rw (c.in-Ge.is, sym c.as_slice-in-Ge.ensures.value) (c.free-in-Ge.ensures (ge_of (values_view c.as_slice-in-Ge.result.now)) c.ge.ensures)

pub returns-in-Len : goal.returns-in-Len
returns-in-Len c = rw (c.in-Len.is, sym c.as_slice-in-Len.ensures.value) (c.free-in-Len.ensures (len_of (values_view c.as_slice-in-Len.result.now)) c.len.ensures)

pub returns-in-Slice : goal.returns-in-Slice
returns-in-Slice c = rw (c.in-Slice.is, sym c.as_slice-in-Slice.ensures.value) (c.paid.ensures (slice_all (values_view c.as_slice-in-Slice.result.now)) c.slice_all.ensures)

pub returns-in-Print : goal.returns-in-Print
returns-in-Print c = rw (c.in-Print.is, sym c.as_slice-in-Print.ensures.value) (c.paid-in-Print.ensures (made (printed_text false (values_view c.as_slice-in-Print.result.now))) c.print_all.ensures)

pub returns-in-Println : goal.returns-in-Println
returns-in-Println c = rw (c.in-Println.is, sym c.as_slice-in-Println.ensures.value) (c.paid-in-Println.ensures (made (printed_text true (values_view c.as_slice-in-Println.result.now))) c.print_all-in-Println.ensures)

pub returns-in-Printf : goal.returns-in-Printf
returns-in-Printf c = rw (c.in-Printf.is, sym c.as_slice-in-Printf.ensures.value) (c.paid-in-Printf.ensures (format_made (formatted_args (values_view c.as_slice-in-Printf.result.now))) c.printf_all.ensures)
