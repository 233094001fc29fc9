-- What a folder keeps of the laws of a shelf.
use Rattle.std.proofs.Common.{inl}
use Rattle.dv_system.specs.Disks.{Disk, IsReadable, LeftBy, files_of}

-- a crash may leave the files as reads give them
pub left_as_read : (disk : Disk) → IsReadable disk → LeftBy disk (files_of disk)
unfolding LeftBy
left_as_read disk readable = inl (λ n. inl (readable n))
