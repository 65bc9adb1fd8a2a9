-- The numbers and words of refused frames.
use Rattle.std.specs.Prelude.{ℕ, List, codes}
use Rattle.sockets.specs.declared.fault.FrameError.{FrameError}
use Rattle.sockets.specs.declared.fault.FrameError.TheVariants.{Short, Read, Write, Memory}

abbrev pub frame_fault_number : FrameError → ℕ
frame_fault_number Short = 1
frame_fault_number Read = 2
frame_fault_number Write = 3
frame_fault_number Memory = 4

abbrev pub frame_fault_text : FrameError → List ℕ
frame_fault_text Short = codes "the stream ends inside a frame"
frame_fault_text Read = codes "the stream cannot be read"
frame_fault_text Write = codes "the stream cannot be written"
frame_fault_text Memory = codes "out of memory"
