-- Two answers that meet a call's promise are equal, and so are the lent elements that it leaves: one lemma for each call,
-- over the contract itself. Assumes nothing.
use mathlib.Core.Path.{◌≡◌, sym, ◌∙◌}
use contract.Lifetimes.{Lfts}
use borrow.Fn.World.{ArgsD, ResD}
use denote.Triple.Clauses.{AtExit}
use Rattle.export_c.specs.contracts.mgrs_read as mgrs_read
use Rattle.export_c.proofs.mgrs_read.Reads as mgrs_read_reads
use Rattle.export_c.specs.contracts.mgrs_read_metres as mgrs_read_metres
use Rattle.export_c.proofs.mgrs_read_metres.Reads as mgrs_read_metres_reads
use Rattle.export_c.specs.contracts.mgrs_write as mgrs_write
use Rattle.export_c.proofs.mgrs_write.Reads as mgrs_write_reads
use Rattle.export_c.specs.contracts.mgrs_shorten as mgrs_shorten
use Rattle.export_c.proofs.mgrs_shorten.Reads as mgrs_shorten_reads
use Rattle.export_c.specs.contracts.mgrs_covers as mgrs_covers
use Rattle.export_c.proofs.mgrs_covers.Reads as mgrs_covers_reads
use Rattle.export_c.specs.contracts.mgrs_check_coords as mgrs_check_coords
use Rattle.export_c.proofs.mgrs_check_coords.Reads as mgrs_check_coords_reads
use Rattle.export_c.specs.contracts.utm_check_coords as utm_check_coords
use Rattle.export_c.proofs.utm_check_coords.Reads as utm_check_coords_reads
use Rattle.export_c.specs.contracts.mgrs_latitude_band as mgrs_latitude_band
use Rattle.export_c.proofs.mgrs_latitude_band.Reads as mgrs_latitude_band_reads
use Rattle.export_c.specs.contracts.mgrs_standard_zone as mgrs_standard_zone
use Rattle.export_c.proofs.mgrs_standard_zone.Reads as mgrs_standard_zone_reads
use Rattle.export_c.specs.contracts.mgrs_utm_row as mgrs_utm_row
use Rattle.export_c.proofs.mgrs_utm_row.Reads as mgrs_utm_row_reads

pub mgrs_read_unique : (κs : Lfts 2) (a : ArgsD mgrs_read.signature κs) (r r' : ResD mgrs_read.signature κs) (s s' : AtExit mgrs_read.ended κs) → mgrs_read_reads.Post κs a r s → mgrs_read_reads.Post κs a r' s' → (r ≡ r') × (s.1.0.now ≡ s'.1.0.now)
mgrs_read_unique κs a r r' s s' p q = (p.0 ∙ sym q.0, p.1 ∙ sym q.1)

pub mgrs_read_metres_unique : (κs : Lfts 2) (a : ArgsD mgrs_read_metres.signature κs) (r r' : ResD mgrs_read_metres.signature κs) (s s' : AtExit mgrs_read_metres.ended κs) → mgrs_read_metres_reads.Post κs a r s → mgrs_read_metres_reads.Post κs a r' s' → (r ≡ r') × (s.1.0.now ≡ s'.1.0.now)
mgrs_read_metres_unique κs a r r' s s' p q = (p.0 ∙ sym q.0, p.1 ∙ sym q.1)

pub mgrs_write_unique : (κs : Lfts 1) (a : ArgsD mgrs_write.signature κs) (r r' : ResD mgrs_write.signature κs) (s s' : AtExit mgrs_write.ended κs) → mgrs_write_reads.Post κs a r s → mgrs_write_reads.Post κs a r' s' → (r ≡ r') × (s.1.1.1.1.1.1.0.now ≡ s'.1.1.1.1.1.1.0.now)
mgrs_write_unique κs a r r' s s' p q = (p.0 ∙ sym q.0, p.1 ∙ sym q.1)

pub mgrs_shorten_unique : (κs : Lfts 2) (a : ArgsD mgrs_shorten.signature κs) (r r' : ResD mgrs_shorten.signature κs) (s s' : AtExit mgrs_shorten.ended κs) → mgrs_shorten_reads.Post κs a r s → mgrs_shorten_reads.Post κs a r' s' → (r ≡ r') × (s.1.1.0.now ≡ s'.1.1.0.now)
mgrs_shorten_unique κs a r r' s s' p q = (p.0 ∙ sym q.0, p.1 ∙ sym q.1)

pub mgrs_covers_unique : (κs : Lfts 2) (a : ArgsD mgrs_covers.signature κs) (r r' : ResD mgrs_covers.signature κs) (s s' : AtExit mgrs_covers.ended κs) → mgrs_covers_reads.Post κs a r s → mgrs_covers_reads.Post κs a r' s' → r ≡ r'
mgrs_covers_unique κs a r r' s s' p q = p ∙ sym q

pub mgrs_check_coords_unique : (κs : Lfts 1) (a : ArgsD mgrs_check_coords.signature κs) (r r' : ResD mgrs_check_coords.signature κs) (s s' : AtExit mgrs_check_coords.ended κs) → mgrs_check_coords_reads.Post κs a r s → mgrs_check_coords_reads.Post κs a r' s' → (r ≡ r') × (s.1.1.1.1.0.now ≡ s'.1.1.1.1.0.now)
mgrs_check_coords_unique κs a r r' s s' p q = (p.0 ∙ sym q.0, p.1 ∙ sym q.1)

pub utm_check_coords_unique : (κs : Lfts 0) (a : ArgsD utm_check_coords.signature κs) (r r' : ResD utm_check_coords.signature κs) (s s' : AtExit utm_check_coords.ended κs) → utm_check_coords_reads.Post κs a r s → utm_check_coords_reads.Post κs a r' s' → r ≡ r'
utm_check_coords_unique κs a r r' s s' p q = p ∙ sym q

pub mgrs_latitude_band_unique : (κs : Lfts 0) (a : ArgsD mgrs_latitude_band.signature κs) (r r' : ResD mgrs_latitude_band.signature κs) (s s' : AtExit mgrs_latitude_band.ended κs) → mgrs_latitude_band_reads.Post κs a r s → mgrs_latitude_band_reads.Post κs a r' s' → r ≡ r'
mgrs_latitude_band_unique κs a r r' s s' p q = p ∙ sym q

pub mgrs_standard_zone_unique : (κs : Lfts 0) (a : ArgsD mgrs_standard_zone.signature κs) (r r' : ResD mgrs_standard_zone.signature κs) (s s' : AtExit mgrs_standard_zone.ended κs) → mgrs_standard_zone_reads.Post κs a r s → mgrs_standard_zone_reads.Post κs a r' s' → r ≡ r'
mgrs_standard_zone_unique κs a r r' s s' p q = p ∙ sym q

pub mgrs_utm_row_unique : (κs : Lfts 0) (a : ArgsD mgrs_utm_row.signature κs) (r r' : ResD mgrs_utm_row.signature κs) (s s' : AtExit mgrs_utm_row.ended κs) → mgrs_utm_row_reads.Post κs a r s → mgrs_utm_row_reads.Post κs a r' s' → r ≡ r'
mgrs_utm_row_unique κs a r r' s s' p q = p ∙ sym q
