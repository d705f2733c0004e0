-- The script of a scan state in the element `script`, and what is pending back in it.
use Rattle.js_step.specs.ScriptScans.{ScriptScan, script_scan_start}
use Rattle.place_core.specs.page.States.{Pending, Nothing}
use Rattle.place_core.specs.declared.js.Js.TheVariants as js
use Rattle.place_core.specs.declared.place.Place.TheVariants as place
use Rattle.html_scan.specs.Scans.{Scan, At, InScriptElement}

-- Outside of the element it is any script.
abbrev pub script_of_scan : Scan → ScriptScan
script_of_scan (At (place.Script j)) = script_scan_start j
script_of_scan (InScriptElement n h) = n
script_of_scan f = script_scan_start js.Dq

abbrev pub back_of_scan : Scan → Pending
back_of_scan (InScriptElement n h) = h
back_of_scan f = Nothing
