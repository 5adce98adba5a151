pub mod RaisableLaws
