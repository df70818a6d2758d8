-- Case by case, by how the values are stored. Assumes nothing.
use Rattle.std.proofs.Common.{of_calls}
use Rattle.row_spec.specs.declared.Storage.TheVariants as storage
use Rattle.bucket_piece.proofs.Stored.{values-stored, stored-fixed, wide-int8, wide-int16, wide-int32, wide-int64}
use Rattle.bucket_piece.proofs.Stored.{wide-float32, wide-float64, wide-time}
use mathlib.Core.Path.{sym, ◌∙◌}
use Rattle.bucket_piece.proofs.run.values_end.Goals as goal

pub returns-in-Boolean : goal.returns-in-Boolean
returns-in-Boolean c =
    sym
    (values-stored c.args.s.now c.args.t c.args.n c.args.at ∙ rw
    (sym c.storage_of.ensures ∙ c.in-Boolean.is) (sym c.booleans_end.ensures))

pub returns-in-Int8 : goal.returns-in-Int8
returns-in-Int8 c =
    sym
    (values-stored c.args.s.now c.args.t c.args.n c.args.at ∙ rw
    (sym c.storage_of.ensures ∙ c.in-Int8.is)
    (stored-fixed c.args.s.now _ _ (wide-int8 c.args.s.now) c.args.n c.args.at ∙ sym
    c.fixed_end.ensures))

pub returns-in-Int16 : goal.returns-in-Int16
returns-in-Int16 c =
    sym
    (values-stored c.args.s.now c.args.t c.args.n c.args.at ∙ rw
    (sym c.storage_of.ensures ∙ c.in-Int16.is)
    (stored-fixed c.args.s.now _ _ (wide-int16 c.args.s.now) c.args.n c.args.at ∙ sym
    c.fixed_end-in-Int16.ensures))

pub returns-in-Int32 : goal.returns-in-Int32
returns-in-Int32 c =
    sym
    (values-stored c.args.s.now c.args.t c.args.n c.args.at ∙ rw
    (sym c.storage_of.ensures ∙ c.in-Int32.is)
    (stored-fixed c.args.s.now _ _ (wide-int32 c.args.s.now) c.args.n c.args.at ∙ sym
    c.fixed_end-in-Int32.ensures))

pub returns-in-Int64 : goal.returns-in-Int64
returns-in-Int64 c =
    sym
    (values-stored c.args.s.now c.args.t c.args.n c.args.at ∙ rw
    (sym c.storage_of.ensures ∙ c.in-Int64.is)
    (stored-fixed c.args.s.now _ _ (wide-int64 c.args.s.now) c.args.n c.args.at ∙ sym
    c.fixed_end-in-Int64.ensures))

pub returns-in-Float32 : goal.returns-in-Float32
returns-in-Float32 c =
    sym
    (values-stored c.args.s.now c.args.t c.args.n c.args.at ∙ rw
    (sym c.storage_of.ensures ∙ c.in-Float32.is)
    (stored-fixed c.args.s.now _ _ (wide-float32 c.args.s.now) c.args.n c.args.at ∙ sym
    c.fixed_end-in-Float32.ensures))

pub returns-in-Float64 : goal.returns-in-Float64
returns-in-Float64 c =
    sym
    (values-stored c.args.s.now c.args.t c.args.n c.args.at ∙ rw
    (sym c.storage_of.ensures ∙ c.in-Float64.is)
    (stored-fixed c.args.s.now _ _ (wide-float64 c.args.s.now) c.args.n c.args.at ∙ sym
    c.fixed_end-in-Float64.ensures))

pub returns-in-Sized : goal.returns-in-Sized
returns-in-Sized c =
    sym
    (values-stored c.args.s.now c.args.t c.args.n c.args.at ∙ rw
    (sym c.storage_of.ensures ∙ c.in-Sized.is)
    (sym (c.each_end.ensures c.args.s.now (storage.Sized c.in-Sized.least) (λ p r e. search of_calls))))

pub returns-in-Time : goal.returns-in-Time
returns-in-Time c =
    sym
    (values-stored c.args.s.now c.args.t c.args.n c.args.at ∙ rw
    (sym c.storage_of.ensures ∙ c.in-Time.is)
    (stored-fixed c.args.s.now _ _ (wide-time c.args.s.now) c.args.n c.args.at ∙ sym
    c.fixed_end-in-Time.ensures))

pub returns-in-TimeFixed : goal.returns-in-TimeFixed
returns-in-TimeFixed c =
    sym
    (values-stored c.args.s.now c.args.t c.args.n c.args.at ∙ rw
    (sym c.storage_of.ensures ∙ c.in-TimeFixed.is)
    (sym (c.each_end-in-TimeFixed.ensures c.args.s.now storage.TimeFixed (λ p r e. search of_calls))))
