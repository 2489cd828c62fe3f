-- The exit status of a text call's result (this project's profile).
use Rattle.std.specs.Prelude.{ℕ, Bool, true, false, Result, Ok, Err}
use Rattle.bridge_threads.specs.declared.threads.Fault.{Fault}
use Rattle.bridge_threads.specs.declared.threads.Fault.TheVariants as thread
use Rattle.burst_plan.specs.declared.MapFault.TheVariants as map_fault
use Rattle.subordinate.specs.declared.DeviceFault.TheVariants as device_fault
use Rattle.setups.specs.declared.SetupFault.{SetupFault}
use Rattle.setups.specs.declared.SetupFault.TheVariants as setup
use Rattle.tlbridge.specs.declared.faults.TextFault.{TextFault}
use Rattle.tlbridge.specs.declared.faults.TextFault.TheVariants.{Script, Setup, Read, Write, NoMemory, Thread}

-- of a refused set-up: 4 for want of memory
abbrev pub setup_status : SetupFault → ℕ
setup_status setup.NoMemory = 4
setup_status (setup.Map map_fault.NoMemory) = 4
setup_status (setup.Device device_fault.NoMemory) = 4
setup_status _ = 2

-- of a threaded run: 4 for want of memory
abbrev pub thread_status : Fault → ℕ
thread_status thread.NoMemory = 4
thread_status _ = 5

-- 0 where all went well, 1 where `check` refused something, 2 for a fault of the script or its set-up, 3 for one of the reader or writer, 4 for want
-- of memory, 5 for a fault of the threads
abbrev pub status_of : Result Bool TextFault → ℕ
status_of (Ok false) = 0
status_of (Ok true) = 1
status_of (Err (Script line word)) = 2
status_of (Err (Setup fault)) = setup_status fault
status_of (Err Read) = 3
status_of (Err Write) = 3
status_of (Err NoMemory) = 4
status_of (Err (Thread fault)) = thread_status fault
