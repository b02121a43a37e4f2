-- What a disk in memory shows.
use Rattle.std.specs.Prelude.{ℕ, Bool, List, Option}
use Rattle.io_traits.specs.Faults.{next_count}
use Rattle.io_traits.specs.DiskState.{DiskState}
use Rattle.io_memory.specs.Calls.{telling, longest_buffer}
use Rattle.io_memory.specs.Turns.{turn_of, is_failure}
use Rattle.io_memory.specs.declared.stop.DiskStop.{DiskStop}
use Rattle.io_memory.specs.declared.disk_memory.MemoryDisk.{MemoryDisk}

-- its present bytes, which are what a read gives
abbrev pub memory_bytes : MemoryDisk → List ℕ
memory_bytes disk = disk.bytes.items

-- what it tells
abbrev pub memory_tells : MemoryDisk → DiskState
memory_tells disk = telling disk.start.items disk.bytes.items disk.calls.items

-- its count of faults
abbrev pub memory_faults : MemoryDisk → ℕ
memory_faults disk = disk.faults

-- the greatest length of a buffer that was handed to one of its reads, of all that its record holds
abbrev pub memory_longest_read : MemoryDisk → ℕ
memory_longest_read disk = longest_buffer disk.calls.items

-- how many calls it had
abbrev pub memory_made : MemoryDisk → ℕ
memory_made disk = disk.made

-- the numbers of the calls that fail, and the call from which on all do
abbrev pub memory_lists : MemoryDisk → List ℕ × Option DiskStop
memory_lists disk = (disk.failing.items, disk.stop)

-- its next call is one that fails
abbrev pub fails_next : MemoryDisk → Bool
fails_next disk = is_failure (turn_of disk.failing.items disk.stop (next_count disk.made))
