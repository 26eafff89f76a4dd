pub mod Forms
pub mod Tables
pub mod Maps
pub mod Cascade
pub use Rattle.sqlite_catalog.specs.Listing
pub use Rattle.sqlite_resolve.specs.Compile
pub use Rattle.sqlite_resolve.specs.Lowering
pub use Rattle.sqlite_resolve.specs.Scope
pub use Rattle.sqlite_resolve.specs.declared.compiled.Compiled
pub use Rattle.sqlite_resolve.specs.declared.error.CompileError
pub use Rattle.sqlite_rules.specs.Lists
pub use Rattle.sqlite_schema.specs.Names
pub use Rattle.sqlite_schema.specs.Rules
pub use Rattle.sqlite_schema.specs.declared.command.Command
pub use Rattle.sqlite_schema.specs.declared.command.Returning
pub use Rattle.sqlite_schema.specs.declared.schema.Action
pub use Rattle.sqlite_schema.specs.declared.schema.Column
pub use Rattle.sqlite_schema.specs.declared.schema.Index
pub use Rattle.sqlite_schema.specs.declared.schema.Keys as TableKeys
pub use Rattle.sqlite_schema.specs.declared.schema.Reference
pub use Rattle.sqlite_schema.specs.declared.schema.Schema
pub use Rattle.sqlite_schema.specs.contracts.schema.Schema as SchemaContracts
pub use Rattle.sqlite_sql.specs.Numeral
pub use Rattle.sqlite_sql.specs.Ops
pub use Rattle.sqlite_sql.specs.Program
pub use Rattle.sqlite_sql.specs.Query
pub use Rattle.sqlite_sql.specs.Term
pub use Rattle.sqlite_sql.specs.declared.ops.ArithOp
pub use Rattle.sqlite_sql.specs.declared.ops.BinaryOp
pub use Rattle.sqlite_sql.specs.declared.ops.CompareOp
pub use Rattle.sqlite_sql.specs.declared.ops.UnaryOp
pub use Rattle.sqlite_tied.specs.Compute
pub use Rattle.sqlite_trees.specs.Objects
pub use Rattle.sqlite_trees.specs.Props
pub use Rattle.sqlite_trees.specs.Tree
pub use Rattle.sqlite_trees.specs.View
pub use Rattle.sqlite_trees.specs.declared.error.StoreError
pub use Rattle.sqlite_trees.specs.declared.store.Store
pub use Rattle.sqlite_value.specs.Keys
pub use Rattle.sqlite_value.specs.Order
pub use Rattle.sqlite_value.specs.Value
pub use Rattle.sqlite_value.specs.declared.keys.Collation
pub use Rattle.sqlite_value.specs.declared.keys.Key
pub use Rattle.sqlite_value.specs.declared.keys.Order as Direction
pub use Rattle.sqlite_value.specs.declared.value.Value as Values
